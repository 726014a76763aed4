-- Filling a block where more cells come to be known.
use Rattle.std.proofs.Common.{◌≡◌, ℕ, ◌+◌, ◌%◌, ◌<◌, None, Ok, Err, refl, ◌∙◌, ap, arith, length}
use Rattle.std.specs.Prelude.{Result}
use Rattle.of_mem.specs.declared.part.Need.{Need}
use Rattle.of_mem.specs.declared.plot.Plot.{Plot}
use Rattle.of_mem.specs.Numbers.{FitsCell}
use Rattle.of_mem.specs.Plots.{base, data_cell_count}
use Rattle.of_mem.specs.Places.{bucket_count, bucket_at, keys_at}
use Rattle.of_mem.specs.Part.{Part, newest_at, write}
use Rattle.of_mem.specs.Programs.{Done, Read, Write}
use Rattle.of_mem.specs.Stores.{first_at, second_at, link_at}
use Rattle.of_mem.specs.OnDemand.{Running, RunGoesOn, MayRun, RunsOn, read_cell, write_cell}
use Rattle.of_mem.proofs.BucketPlaces.{bucket_places, bucket_in, key_bucket}
use Rattle.of_mem.proofs.Runs.{four_before}
use Rattle.of_mem.proofs.OnDemand.{fits_on, goes_further, may_after_read, may_after_write, may_serve, read_gave, now, runs_read, runs_write, runs_done, lacks_read}
use Rattle.of_map.specs.declared.answers.Put.{Put}
use Rattle.of_map.specs.declared.answers.Put.TheVariants.{New}
use Rattle.of_map.specs.Found.{CanFill}
use Rattle.of_map.specs.MapPrograms.{fill, linked_in, more_keys}

-- the front of the key's bucket is a cell of the plot
pub front_is : (plot : Plot) (key n cell : ℕ) → n ≡ bucket_count plot.blocks → cell ≡ bucket_at (base plot) plot.blocks (key % n) → (cell ≡ bucket_at (base plot) plot.blocks (key % bucket_count plot.blocks)) × (cell < data_cell_count plot)
front_is plot key n cell e is =
    let at : cell ≡ bucket_at (base plot) plot.blocks (key % bucket_count plot.blocks) = is ∙ ap (λ (x : ℕ). bucket_at (base plot) plot.blocks (key % x)) e in
    (at, omega (arith, at, bucket_in (base plot) plot.blocks (key % bucket_count plot.blocks) (key_bucket plot.blocks key)))

abbrev Wrote : (Part → Type 0) → ℕ → ℕ → Part → Type 0
Wrote R a v q = (p : Part) × R p × (q ≡ write p a v)

module _ (plot : Plot) (key value b : ℕ) (c d1 d2 : Running) (h : MayRun (fill plot key value b) (λ p. CanFill plot p b) c)
    (w1 : RunsOn (write_cell (first_at (base plot) b) key) c d1 (Ok tt)) (w2 : RunsOn (write_cell (second_at (base plot) b) value) d1 d2 (Ok tt)) where
  abbrev o : ℕ
  o = base plot

  abbrev bucket : ℕ
  bucket = bucket_at o plot.blocks (key % bucket_count plot.blocks)

  fits : (d : Running) → RunGoesOn c d → length d.part.known ≡ data_cell_count plot
  fits d g = fits_on (data_cell_count plot) (fill plot key value b) (λ p. CanFill plot p b) c d (λ p k. k.fits) h g

  goes2 : RunGoesOn c d2
  goes2 = goes_further c d1 d2 w1.goes w2.goes

  pub fits2 : length d2.part.known ≡ data_cell_count plot
  fits2 = fits d2 goes2

  abbrev R1 : Part → Type 0
  R1 = Wrote (λ p. CanFill plot p b) (first_at o b) key

  abbrev R2 : Part → Type 0
  R2 = Wrote R1 (second_at o b) value

  m2 : MayRun (Read bucket (linked_in o bucket b)) R2 d2
  m2 = may_after_write (second_at o b) value (Read bucket (linked_in o bucket b)) R1 d1 d2 (may_after_write (first_at o b) key (Write (second_at o b) value (Read bucket (linked_in o bucket b))) (λ p. CanFill plot p b) c d1 h w1) w2

  pub front_may_read : newest_at d2.part bucket ≡ None → d2.lacks d2.part.known bucket
  front_may_read n = may_serve bucket (linked_in o bucket b) R2 d2 m2 n

  behind : (e : Running) (result : Result Put Need) → RunsOn (Read bucket (linked_in o bucket b)) d2 e result → RunsOn (fill plot key value b) c e result
  behind e result k = runs_write (first_at o b) key _ c d1 e result w1 (runs_write (second_at o b) value _ d1 d2 e result w2 k)

  pub front_lacks : (e : Running) (need : Need) → RunsOn (read_cell bucket) d2 e (Err need) → RunsOn (fill plot key value b) c e (Err need)
  front_lacks e need k = behind e (Err need) (lacks_read bucket (linked_in o bucket b) d2 e need k)

  pub fits4 : (d3 d4 : Running) → RunGoesOn d2 d3 → RunGoesOn d3 d4 → length d4.part.known ≡ data_cell_count plot
  fits4 d3 d4 g3 g4 = fits d4 (goes_further c d2 d4 goes2 (goes_further d2 d3 d4 g3 g4))

  module _ (d3 d4 d5 : Running) (front : ℕ) (r3 : RunsOn (read_cell bucket) d2 d3 (Ok front)) (w4 : RunsOn (write_cell (link_at o b) front) d3 d4 (Ok tt)) (w5 : RunsOn (write_cell bucket (b + 1)) d4 d5 (Ok tt)) where
    goes5 : RunGoesOn c d5
    goes5 = goes_further c d2 d5 goes2 (goes_further d2 d3 d5 r3.goes (goes_further d3 d4 d5 w4.goes w5.goes))

    pub fits5 : length d5.part.known ≡ data_cell_count plot
    fits5 = fits d5 goes5

    pub fits6 : (d6 : Running) → RunGoesOn d5 d6 → length d6.part.known ≡ data_cell_count plot
    fits6 d6 g = fits d6 (goes_further c d5 d6 goes5 g)

    abbrev R4 : Part → Type 0
    R4 = Wrote R2 (link_at o b) front

    abbrev R5 : Part → Type 0
    R5 = Wrote R4 bucket (b + 1)

    m5 : MayRun (Read (keys_at o) (more_keys o)) R5 d5
    m5 = may_after_write bucket (b + 1) (Read (keys_at o) (more_keys o)) R4 d4 d5 (may_after_write (link_at o b) front _ R2 d3 d4 (may_after_read bucket front (linked_in o bucket b) R2 d2 d3 m2 r3) w4) w5

    pub keys_may_read : newest_at d5.part (keys_at o) ≡ None → d5.lacks d5.part.known (keys_at o)
    keys_may_read n = may_serve (keys_at o) (more_keys o) R5 d5 m5 n

    behind5 : (e : Running) (result : Result Put Need) → RunsOn (Read (keys_at o) (more_keys o)) d5 e result → RunsOn (fill plot key value b) c e result
    behind5 e result k = behind e result (runs_read bucket front (linked_in o bucket b) d2 d3 e result r3 (runs_write (link_at o b) front _ d3 d4 e result w4 (runs_write bucket (b + 1) _ d4 d5 e result w5 k)))

    pub keys_lacks : (e : Running) (need : Need) → RunsOn (read_cell (keys_at o)) d5 e (Err need) → RunsOn (fill plot key value b) c e (Err need)
    keys_lacks e need k = behind5 e (Err need) (lacks_read (keys_at o) (more_keys o) d5 e need k)

    module _ (d6 : Running) (n : ℕ) (r6 : RunsOn (read_cell (keys_at o)) d5 d6 (Ok n)) where
      pub one_more : FitsCell (n + 1)
      one_more =
          let m6 = may_after_read (keys_at o) n (more_keys o) R5 d5 d6 m5 r6 in
          let k5 = now R5 d6 m6.knows m6.always in
          let k4 = k5.1 in
          let k2 = k4.1 in
          let k1 = k2.1 in
          k1.1.keys n (four_before k1.0 k2.0 k4.0 k5.0 d6.part _ _ _ _ _ _ _ _ (keys_at o) (keys_at o) n k1.2 k2.2 k4.2 k5.2
          (λ e. omega arith) (λ e. omega arith) (λ e. omega arith) (λ e. omega (arith, bucket_places plot.blocks)) refl (read_gave (keys_at o) n d5 d6 r6).1)

      pub filled : (d7 : Running) → RunsOn (write_cell (keys_at o) (n + 1)) d6 d7 (Ok tt) → RunsOn (fill plot key value b) c d7 (Ok New)
      filled d7 w7 = behind5 d7 (Ok New) (runs_read (keys_at o) n (more_keys o) d5 d6 d7 (Ok New) r6 (runs_write (keys_at o) (n + 1) (Done New) d6 d7 d7 (Ok New) w7 (runs_done d7 New w7.goes.knows)))
