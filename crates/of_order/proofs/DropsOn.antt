-- The walk that drops keys, where more cells come to be known.
use Rattle.std.proofs.Common.{◌≡◌, ◌≢◌, ℕ, zero, suc, ◌+◌, ◌-◌, ◌<◌, ◌≤◌, Some, None, Ok, Err, refl, ap, arith, length, lt-ltb, le-ltb}
use Rattle.std.specs.Prelude.{Result}
use Rattle.of_mem.specs.declared.part.Need.{Need}
use Rattle.of_mem.specs.declared.plot.Plot.{Plot}
use Rattle.of_mem.specs.Plots.{base, data_cell_count}
use Rattle.of_mem.specs.Places.{bucket_count, keys_at, bucket_at}
use Rattle.of_mem.specs.Part.{Part, newest_at, write, with_known}
use Rattle.of_mem.specs.Programs.{Program, Done, Read, Write, then_do}
use Rattle.of_mem.specs.Stores.{first_at, link_at}
use Rattle.of_mem.specs.Calls.{HasStore, ActsOnStore}
use Rattle.of_mem.specs.OnDemand.{Running, Always, MayRun, RunsOn, read_cell, write_cell}
use Rattle.of_mem.proofs.OnDemand.{ComesTo, comes_first, comes_as, comes_past, comes_out, comes_may, may_first, may_serve, always_second, always_read_gave, write_left, runs_over, runs_read, runs_write, runs_done, lacks_read, lacks_first, now}
use Rattle.of_alloc.specs.Blocks.{HasOut}
use Rattle.of_alloc.specs.BlockPrograms.{give, give_program}
use Rattle.of_order.specs.OrderPrograms.{after_give, drop_key, drop_link, drop_or, drop_pointer, drop_walk, drop_in, drop_front, drop_buckets, drop_below, count_gone, less_gone}
use Rattle.of_order.specs.Dropping.{IsDropping, IsDropped}
use Rattle.of_order.specs.Means.{dropped_count, after_drop}
use Rattle.of_order.proofs.Drops.{drop_acts}
use Rattle.of_order.proofs.DropWalks.{Stays, stays_first, stays_below, stays_on, goes_out, stays_behind, cell_fits, drop_bucket, no_bucket, begins, next_bucket, all_dropped}
use Rattle.of_order.proofs.Rests.{turn, whole}
use Rattle.of_order.proofs.Walking.{is_suc}

-- Where the walk of a bucket begins.
module _ (plot : Plot) (low i gone : ℕ) (small : i < bucket_count plot.blocks) (c d : Running) (h : MayRun (drop_in plot i low gone) (λ p. IsDropping plot p low i gone) c) (cell f : ℕ) (is : cell ≡ bucket_at (base plot) plot.blocks i) (read : RunsOn (read_cell cell) c d (Ok f)) where
  at_front : RunsOn (read_cell (bucket_at (base plot) plot.blocks i)) c d (Ok f)
  at_front = rw is at read

  walk_from : ComesTo (drop_in plot i low gone) (drop_walk (base plot) low plot.blocks (bucket_at (base plot) plot.blocks i) f gone) c d
  walk_from = comes_past (drop_in plot i low gone) (read_cell (bucket_at (base plot) plot.blocks i)) (drop_front (base plot) plot.blocks i low gone) c c d f (comes_first (drop_in plot i low gone) c h.knows) at_front

  pub walk_begins : ComesTo (drop_in plot i low gone) (drop_walk (base plot) low (plot.blocks - 0) cell f gone) c d
  walk_begins = rw is (comes_as (drop_in plot i low gone) (drop_walk (base plot) low plot.blocks (bucket_at (base plot) plot.blocks i) f gone) (drop_walk (base plot) low (plot.blocks - 0) (bucket_at (base plot) plot.blocks i) f gone) c d
      (ap (λ (n : ℕ). drop_walk (base plot) low n (bucket_at (base plot) plot.blocks i) f gone) (whole plot.blocks)) walk_from)

  pub stays_begins : Always (λ p. Stays plot p low i cell f gone) d
  stays_begins more e k =
      let r = always_read_gave (λ p. IsDropping plot p low i gone) cell f c d h.always read more e k in
      stays_first plot (with_known more d.part) low i gone cell f r.0 small is r.1

-- One turn of the walk.
module _ (plot : Plot) (low i gone0 : ℕ) (small : i < bucket_count plot.blocks) (c d : Running) (h : MayRun (drop_in plot i low gone0) (λ p. IsDropping plot p low i gone0) c)
    (step cell f gone : ℕ) (left : step < plot.blocks) (came : ComesTo (drop_in plot i low gone0) (drop_walk (base plot) low (plot.blocks - step) cell f gone) c d) (stays : Always (λ p. Stays plot p low i cell f gone) d) where
  abbrev o : ℕ
  o = base plot

  abbrev n : ℕ
  n = plot.blocks - (step + 1)

  abbrev whole_walk : Program ℕ
  whole_walk = drop_in plot i low gone0

  abbrev further : ℕ → ℕ → ℕ → Program ℕ
  further = drop_walk o low n

  abbrev S : Part → Type 0
  S p = Stays plot p low i cell f gone

  turned : ComesTo whole_walk (drop_pointer o low further cell gone f) c d
  turned = comes_as whole_walk (drop_walk o low (plot.blocks - step) cell f gone) (drop_walk o low (suc n) cell f gone) c d (ap (λ (j : ℕ). drop_walk o low j cell f gone) (turn plot.blocks step left)) came

  pub walk_ends : f ≡ 0 → RunsOn whole_walk c d (Ok gone)
  walk_ends z = comes_out whole_walk (Done gone) c d d (Ok gone) (comes_as whole_walk (drop_pointer o low further cell gone f) (Done gone) c d (ap (λ (x : ℕ). drop_pointer o low further cell gone x) z) turned) (runs_done d gone came.goes.knows)

  pub fits : length d.part.known ≡ data_cell_count plot
  fits = (now S d came.goes.knows stays).fits

  module _ (some : f ≢ 0) where
    abbrev b : ℕ
    b = f - 1

    pub below : b < plot.blocks
    below = stays_below plot d.part low i cell f gone small (now S d came.goes.knows stays) some

    at_block : ComesTo whole_walk (Read (first_at o b) (drop_key o low further cell b gone)) c d
    at_block = comes_as whole_walk (drop_pointer o low further cell gone f) (Read (first_at o b) (drop_key o low further cell b gone)) c d (ap (λ (x : ℕ). drop_pointer o low further cell gone x) (is_suc f some)) turned

    module _ (first : ℕ) (is_first : first ≡ first_at o b) where
      pub key_may_read : newest_at d.part first ≡ None → d.lacks d.part.known first
      key_may_read = rw is_first (may_serve (first_at o b) (drop_key o low further cell b gone) S d (comes_may whole_walk (Read (first_at o b) (drop_key o low further cell b gone)) (λ p. IsDropping plot p low i gone0) S c d h at_block stays))

      pub key_lacks : (e : Running) (need : Need) → RunsOn (read_cell first) d e (Err need) → RunsOn whole_walk c e (Err need)
      key_lacks e need k =
          let r : RunsOn (read_cell (first_at o b)) d e (Err need) = rw is_first at k in
          comes_out whole_walk (Read (first_at o b) (drop_key o low further cell b gone)) c d e (Err need) at_block (lacks_read (first_at o b) (drop_key o low further cell b gone) d e need r)

      module _ (d1 : Running) (key : ℕ) (read1 : RunsOn (read_cell first) d d1 (Ok key)) where
        r1 : RunsOn (read_cell (first_at o b)) d d1 (Ok key)
        r1 = rw is_first at read1

        abbrev S1 : Part → Type 0
        S1 p = S p × (newest_at p (first_at o b) ≡ Some key)

        stays1 : Always S1 d1
        stays1 = always_read_gave S (first_at o b) key d d1 stays r1

        at_key : ComesTo whole_walk (Read (link_at o b) (drop_link o low further cell b gone key)) c d1
        at_key = comes_past whole_walk (read_cell (first_at o b)) (drop_key o low further cell b gone) c d d1 key at_block r1

        pub fits1 : length d1.part.known ≡ data_cell_count plot
        fits1 = (now S1 d1 r1.goes.knows stays1).0.fits

        module _ (link_cell : ℕ) (is_link : link_cell ≡ link_at o b) where
          pub link_may_read : newest_at d1.part link_cell ≡ None → d1.lacks d1.part.known link_cell
          link_may_read = rw is_link (may_serve (link_at o b) (drop_link o low further cell b gone key) S1 d1 (comes_may whole_walk (Read (link_at o b) (drop_link o low further cell b gone key)) (λ p. IsDropping plot p low i gone0) S1 c d1 h at_key stays1))

          pub link_lacks : (e : Running) (need : Need) → RunsOn (read_cell link_cell) d1 e (Err need) → RunsOn whole_walk c e (Err need)
          link_lacks e need k =
              let r : RunsOn (read_cell (link_at o b)) d1 e (Err need) = rw is_link at k in
              comes_out whole_walk (Read (link_at o b) (drop_link o low further cell b gone key)) c d1 e (Err need) at_key (lacks_read (link_at o b) (drop_link o low further cell b gone key) d1 e need r)

          module _ (d2 : Running) (link : ℕ) (read2 : RunsOn (read_cell link_cell) d1 d2 (Ok link)) where
            r2 : RunsOn (read_cell (link_at o b)) d1 d2 (Ok link)
            r2 = rw is_link at read2

            abbrev S2 : Part → Type 0
            S2 p = S1 p × (newest_at p (link_at o b) ≡ Some link)

            stays2 : Always S2 d2
            stays2 = always_read_gave S1 (link_at o b) link d1 d2 stays1 r2

            at_link : ComesTo whole_walk (drop_link o low further cell b gone key link) c d2
            at_link = comes_past whole_walk (read_cell (link_at o b)) (drop_link o low further cell b gone key) c d1 d2 link at_key r2

            -- the key stays
            pub walks_on : (next : ℕ) → low ≤ key → next ≡ link_at o b → ComesTo whole_walk (drop_walk o low n next link gone) c d2
            walks_on next le is = rw is (comes_as whole_walk (drop_link o low further cell b gone key link) (drop_walk o low n (link_at o b) link gone) c d2 (ap (λ t. drop_or o further cell b gone link t) (le-ltb key low le)) at_link)

            pub still_stays : (next : ℕ) → low ≤ key → next ≡ link_at o b → Always (λ p. Stays plot p low i next link gone) d2
            still_stays next le is more e k =
                let s = stays2 more e k in
                stays_on plot (with_known more d2.part) low i cell f gone small s.0.0 some key (first_at o b) next link refl s.0.1 le is (rw is s.1)

            -- the key goes
            module _ (less : key < low) where
              abbrev given : Program ℕ
              given = then_do (give_program o b) (after_give o further cell link gone)

              at_write : ComesTo whole_walk (Write cell link given) c d2
              at_write = comes_as whole_walk (drop_link o low further cell b gone key link) (Write cell link given) c d2 (ap (λ t. drop_or o further cell b gone link t) (lt-ltb key low less)) at_link

              pub cell_below : cell < length d2.part.known
              cell_below =
                  let s = now S2 d2 r2.goes.knows stays2 in
                  let k = cell_fits plot d2.part low i cell f gone small s.0.0 some key (first_at o b) (link_at o b) link refl s.0.1 less in
                  omega (arith, k, s.0.0.fits)

              module _ (d3 : Running) (w : RunsOn (write_cell cell link) d2 d3 (Ok tt)) where
                abbrev S3 : Part → Type 0
                S3 q = (p : Part) × S2 p × (q ≡ write p cell link) × (q.known ≡ p.known)

                stays3 : Always S3 d3
                stays3 = always_second (write_cell cell link) S2 S3 d2 d3 tt (λ p q s r. (p, s, write_left cell link p q r.walk, r.known)) stays2 w

                at_give : ComesTo whole_walk given c d3
                at_give = comes_past whole_walk (write_cell cell link) (λ (u : Unit {0}). given) c d2 d3 tt at_write w

                block_out : (q : Part) → S3 q → HasOut plot q b
                block_out q s = goes_out plot s.0 low i cell f gone small s.1.0.0 some key (first_at o b) (link_at o b) link refl s.1.0.1 less refl s.1.1 q s.2 s.3

                pub may_give : MayRun (give plot b) (λ p. HasOut plot p b) d3
                may_give = may_first (give plot b) (after_give o further cell link gone) S3 (λ p. HasOut plot p b) d3 block_out (comes_may whole_walk given (λ p. IsDropping plot p low i gone0) S3 c d3 h at_give stays3)

                pub give_lacks : (e : Running) (need : Need) → RunsOn (give plot b) d3 e (Err need) → RunsOn whole_walk c e (Err need)
                give_lacks e need k = comes_out whole_walk given c d3 e (Err need) at_give (lacks_first (give plot b) (after_give o further cell link gone) d3 e need k)

                module _ (d4 : Running) (u : Unit {0}) (gave : RunsOn (give plot b) d3 d4 (Ok u)) where
                  pub walks_behind : ComesTo whole_walk (drop_walk o low n cell link (gone + 1)) c d4
                  walks_behind = comes_past whole_walk (give plot b) (after_give o further cell link gone) c d3 d4 u at_give gave

                  pub stays_gone : Always (λ p. Stays plot p low i cell link (gone + 1)) d4
                  stays_gone = always_second (give plot b) S3 (λ p. Stays plot p low i cell link (gone + 1)) d3 d4 u (λ q v s r.
                      stays_behind plot s.0 low i cell f gone small s.1.0.0 some key (first_at o b) (link_at o b) link refl s.1.0.1 less refl s.1.1 q v u s.2 s.3 r) stays3 gave

-- One bucket after the other.
module _ (plot : Plot) (low : ℕ) (c : Running) (h : MayRun (drop_below plot low) (HasStore plot) c) where
  pub buckets_begin : ComesTo (drop_below plot low) (drop_buckets (base plot) plot.blocks low (bucket_count plot.blocks - 0) 0 0) c c
  buckets_begin = comes_as (drop_below plot low) (drop_below plot low) (drop_buckets (base plot) plot.blocks low (bucket_count plot.blocks - 0) 0 0) c c (ap (λ (n : ℕ). drop_buckets (base plot) plot.blocks low n 0 0) (whole (bucket_count plot.blocks))) (comes_first (drop_below plot low) c h.knows)

  pub dropping_begins : Always (λ p. IsDropping plot p low 0 0) c
  dropping_begins more e k = begins plot (with_known more c.part) low (h.always more e k)

  module _ (d : Running) (i gone : ℕ) (came : ComesTo (drop_below plot low) (drop_buckets (base plot) plot.blocks low (bucket_count plot.blocks - i) i gone) c d) (stands : Always (λ p. IsDropping plot p low i gone) d) where
    module _ (small : i < bucket_count plot.blocks) where
      abbrev others : ℕ → Program ℕ
      others = drop_buckets (base plot) plot.blocks low (bucket_count plot.blocks - (i + 1)) (i + 1)

      at_bucket : ComesTo (drop_below plot low) (then_do (drop_in plot i low gone) others) c d
      at_bucket = comes_as (drop_below plot low) (drop_buckets (base plot) plot.blocks low (bucket_count plot.blocks - i) i gone) (then_do (drop_in plot i low gone) others) c d (drop_bucket (base plot) plot.blocks low (bucket_count plot.blocks) i gone small) came

      pub may_drop_in : MayRun (drop_in plot i low gone) (λ p. IsDropping plot p low i gone) d
      may_drop_in = may_first (drop_in plot i low gone) others (λ p. IsDropping plot p low i gone) (λ p. IsDropping plot p low i gone) d (λ p k. k) (comes_may (drop_below plot low) (then_do (drop_in plot i low gone) others) (HasStore plot) (λ p. IsDropping plot p low i gone) c d h at_bucket stands)

      pub bucket_lacks : (e : Running) (need : Need) → RunsOn (drop_in plot i low gone) d e (Err need) → RunsOn (drop_below plot low) c e (Err need)
      bucket_lacks e need k = comes_out (drop_below plot low) (then_do (drop_in plot i low gone) others) c d e (Err need) at_bucket (lacks_first (drop_in plot i low gone) others d e need k)

      module _ (e : Running) (g : ℕ) (ran : RunsOn (drop_in plot i low gone) d e (Ok g)) where
        pub past_bucket : ComesTo (drop_below plot low) (others g) c e
        past_bucket = comes_past (drop_below plot low) (drop_in plot i low gone) others c d e g at_bucket ran

        pub dropping_on : Always (λ p. IsDropping plot p low (i + 1) g) e
        dropping_on = always_second (drop_in plot i low gone) (λ p. IsDropping plot p low i gone) (λ p. IsDropping plot p low (i + 1) g) d e g (λ p q k r. next_bucket plot p q low i gone g small k r) stands ran

    module _ (all : bucket_count plot.blocks ≤ i) where
      at_count : ComesTo (drop_below plot low) (count_gone plot gone) c d
      at_count = comes_as (drop_below plot low) (drop_buckets (base plot) plot.blocks low (bucket_count plot.blocks - i) i gone) (count_gone plot gone) c d (no_bucket (base plot) plot.blocks low (bucket_count plot.blocks) i gone all) came

      pub may_count : MayRun (count_gone plot gone) (λ p. IsDropped plot p gone) d
      may_count = comes_may (drop_below plot low) (count_gone plot gone) (HasStore plot) (λ p. IsDropped plot p gone) c d h at_count (λ more e k. all_dropped plot (with_known more d.part) low i gone (stands more e k))

      pub counts : (e : Running) (result : Result ℕ Need) → RunsOn (count_gone plot gone) d e result → RunsOn (drop_below plot low) c e result
      counts e result k = comes_out (drop_below plot low) (count_gone plot gone) c d e result at_count k

-- the read and the write of counting so many keys less
pub counted : (plot : Plot) (gone : ℕ) (c d e : Running) (n k1 k2 : ℕ) → gone ≢ 0 → k1 ≡ keys_at (base plot) → k2 ≡ keys_at (base plot) → RunsOn (read_cell k1) c d (Ok n) → RunsOn (write_cell k2 (n - gone)) d e (Ok tt) → RunsOn (count_gone plot gone) c e (Ok gone)
counted plot zero c d e n k1 k2 some is1 is2 read wrote = absurd (some refl)
counted plot (suc j) c d e n k1 k2 some is1 is2 read wrote =
    let at = keys_at (base plot) in
    let first : RunsOn (read_cell at) c d (Ok n) = rw is1 at read in
    let second : RunsOn (write_cell at (n - suc j)) d e (Ok tt) = rw is2 at wrote in
    runs_read at n (less_gone (base plot) (suc j)) c d e (Ok (suc j)) first (runs_write at (n - suc j) (Done (suc j)) d e e (Ok (suc j)) second (runs_done e (suc j) second.goes.knows))

-- what a dropping that ran did
pub drops_on : (plot : Plot) (low : ℕ) (c d : Running) (result : Result ℕ Need) → RunsOn (drop_below plot low) c d result → ActsOnStore plot (with_known d.part.known c.part) d.part result (dropped_count low) (after_drop low)
drops_on plot low c d result r = drop_acts plot low (with_known d.part.known c.part) d.part result (runs_over (drop_below plot low) c d result r)
