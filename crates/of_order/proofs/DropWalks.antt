-- The walk that drops keys, on partial memory.
use Rattle.std.proofs.Common.{◌≡◌, ℕ, suc, ◌+◌, ◌-◌, ◌<◌, ◌≤◌, ◌≢◌, refl, sym, ◌∙◌, ap, subst, arith, Some, List, ◌∷◌, length, Ok}
use Rattle.of_mem.specs.declared.plot.Plot.{Plot}
use Rattle.of_mem.specs.Plots.{base, data_cell_count}
use Rattle.of_mem.specs.Places.{bucket_count, keys_at, bucket_at}
use Rattle.of_mem.specs.Part.{Part, newest_at, write}
use Rattle.of_mem.specs.Programs.{StaysBetween, then_do, with_value, memory_after, IsPartOf}
use Rattle.of_mem.specs.Stores.{CellStore, first_at, link_at}
use Rattle.of_mem.specs.Calls.{RunsProgram, HasStore}
use Rattle.of_mem.proofs.Runs.{run_ended, part_wrote}
use Rattle.of_alloc.specs.Blocks.{HasOut}
use Rattle.of_alloc.specs.BlockPrograms.{give, give_program}
use Rattle.of_order.specs.OrderPrograms.{drop_in, drop_in_program, drop_buckets, count_gone_program}
use Rattle.of_order.specs.Dropping.{IsBetweenBuckets, IsInsideBucket, IsDropping, IsDropped}
use Rattle.of_order.proofs.Walking.{is_suc}
use Rattle.of_order.proofs.Dropping.{at_block, block_below, stays, leaves, leaves_inside, list_left, block_out}
use Rattle.of_order.proofs.Drops.{at_first, in_drops, within_first}
use Rattle.of_order.proofs.Rests.{turn, none_left}

-- the partial memory is part of a memory that stands inside bucket i
pub record Stays (plot : Plot) (p : Part) (low i cell pointer gone : ℕ) : Type 0 where
  pub fits : length p.known ≡ data_cell_count plot
  pub memory : ℕ → ℕ
  pub first : CellStore
  pub part : IsPartOf p memory
  pub behind : List ℕ
  pub within : IsInsideBucket (base plot) plot.blocks low i first memory cell pointer gone behind

pub stays_first : (plot : Plot) (p : Part) (low i gone a f : ℕ) → IsDropping plot p low i gone → i < bucket_count plot.blocks → a ≡ bucket_at (base plot) plot.blocks i → newest_at p a ≡ Some f → Stays plot p low i a f gone
stays_first plot p low i gone a f h l is e =
    let w = within_first (base plot) plot.blocks low plot.few_blocks h.first i l h.memory gone h.state in
    let same : h.memory (bucket_at (base plot) plot.blocks i) ≡ f = h.part (bucket_at (base plot) plot.blocks i) f (rw is at e) in
    record {
      fits = h.fits;
      memory = h.memory;
      first = h.first;
      part = h.part;
      behind = h.state.stands.chains (1 + i);
      within = rw is (subst (λ (x : ℕ). IsInsideBucket (base plot) plot.blocks low i h.first h.memory (bucket_at (base plot) plot.blocks i) x gone (h.state.stands.chains (1 + i))) same w);
    }

module _ (plot : Plot) (p : Part) (low i cell f gone : ℕ) (small : i < bucket_count plot.blocks) (h : Stays plot p low i cell f gone) (some : f ≢ 0) where
  abbrev o : ℕ
  o = base plot

  abbrev b : ℕ
  b = f - 1

  here : (k : List ℕ) × (h.behind ≡ b ∷ k)
  here = at_block o plot.blocks low i small h.first h.memory cell f gone h.behind h.within b (is_suc f some)

  abbrev w : IsInsideBucket o plot.blocks low i h.first h.memory cell f gone (b ∷ here.0)
  w = subst (λ (l : List ℕ). IsInsideBucket o plot.blocks low i h.first h.memory cell f gone l) here.1 h.within

  pub stays_below : b < plot.blocks
  stays_below = block_below o plot.blocks low i small h.first h.memory cell f gone b here.0 w

  -- the key stays, and the walk goes on behind the block
  pub stays_on : (k a c g : ℕ) → a ≡ first_at o b → newest_at p a ≡ Some k → low ≤ k → c ≡ link_at o b → newest_at p c ≡ Some g → Stays plot p low i c g gone
  stays_on k a c g is e le too q =
      let key : h.memory (first_at o b) ≡ k = h.part (first_at o b) k (rw is at e) in
      let link : h.memory (link_at o b) ≡ g = h.part (link_at o b) g (rw too at q) in
      record {
        fits = h.fits;
        memory = h.memory;
        first = h.first;
        part = h.part;
        behind = here.0;
        within = rw too (subst (λ (x : ℕ). IsInsideBucket o plot.blocks low i h.first h.memory (link_at o b) x gone here.0) link (stays o plot.blocks low i small h.first h.memory cell f gone b here.0 w (omega (arith, key, le))));
      }

  module _ (k a c g : ℕ) (is : a ≡ first_at o b) (e : newest_at p a ≡ Some k) (less : k < low) (too : c ≡ link_at o b) (q : newest_at p c ≡ Some g) where
    key_less : h.memory (first_at o b) < low
    key_less = let key : h.memory (first_at o b) ≡ k = h.part (first_at o b) k (rw is at e) in omega (arith, key, less)

    link_is : h.memory (link_at o b) ≡ g
    link_is = h.part (link_at o b) g (rw too at q)

    part_linked : IsPartOf (write p cell g) (with_value h.memory cell (h.memory (link_at o b)))
    part_linked = subst (λ (x : ℕ). IsPartOf (write p cell x) (with_value h.memory cell (h.memory (link_at o b)))) link_is (part_wrote p h.memory cell (h.memory (link_at o b)) h.part)

    -- the pointer cell has the block's link: the block is out
    pub goes_out : (n : Part) → n ≡ write p cell g → n.known ≡ p.known → HasOut plot n b
    goes_out n same known = record {
      fits = ap length known ∙ h.fits;
      memory = _;
      free = _;
      part = rw same part_linked;
      list = list_left o plot.blocks low i small h.first h.memory cell f gone b here.0 w plot.few_blocks key_less;
      out = block_out o plot.blocks low i small h.first h.memory cell f gone b here.0 w plot.few_blocks key_less;
    }

    given_inside : StaysBetween o (data_cell_count plot) (give_program o b) (with_value h.memory cell (h.memory (link_at o b)))
    given_inside = let t = leaves_inside o plot.blocks low i small h.first h.memory cell f gone b here.0 w plot.few_blocks key_less in t.3

    -- the block is given, and the walk goes on from the same pointer cell
    pub stays_behind : (n v : Part) (u : Unit {0}) → n ≡ write p cell g → n.known ≡ p.known → RunsProgram (give plot b) n v (Ok u) → Stays plot v low i cell g (gone + 1)
    stays_behind n v u same known ran =
        let d = run_ended o (data_cell_count plot) (give_program o b) n v (with_value h.memory cell (h.memory (link_at o b))) u (rw same part_linked) given_inside ran.walk in
        record {
          fits = ap length (ran.known ∙ known) ∙ h.fits;
          memory = _;
          first = h.first;
          part = d.part;
          behind = here.0;
          within = subst (λ (x : ℕ). IsInsideBucket o plot.blocks low i h.first (memory_after (give_program o b) (with_value h.memory cell (h.memory (link_at o b)))) cell x (gone + 1) here.0) link_is (leaves o plot.blocks low i small h.first h.memory cell f gone b here.0 w plot.few_blocks key_less);
        }

-- the pointer cell is a cell of the plot
pub cell_fits : (plot : Plot) (p : Part) (low i cell f gone : ℕ) → i < bucket_count plot.blocks → (h : Stays plot p low i cell f gone) → f ≢ 0 → (k a c g : ℕ) → a ≡ first_at (base plot) (f - 1) → newest_at p a ≡ Some k → k < low → cell < data_cell_count plot
cell_fits plot p low i cell f gone small h some k a c g is e less =
    let t = leaves_inside (base plot) plot.blocks low i small h.first h.memory cell f gone (f - 1) (here plot p low i cell f gone small h some).0 (w plot p low i cell f gone small h some) plot.few_blocks
    (let key : h.memory (first_at (base plot) (f - 1)) ≡ k = h.part (first_at (base plot) (f - 1)) k (rw is at e) in omega (arith, key, less)) in t.1

-- ---- one bucket of so many

one_more : (o blocks low j i gone : ℕ) → drop_buckets o blocks low (suc j) i gone ≡ then_do (drop_in_program o blocks i low gone) (drop_buckets o blocks low j (i + 1))
unfolding drop_buckets
one_more o blocks low j i gone = refl

no_more : (o blocks low i gone : ℕ) → drop_buckets o blocks low 0 i gone ≡ count_gone_program o gone
unfolding drop_buckets
no_more o blocks low i gone = refl

pub drop_bucket : (o blocks low n i gone : ℕ) → i < n → drop_buckets o blocks low (n - i) i gone ≡ then_do (drop_in_program o blocks i low gone) (drop_buckets o blocks low (n - (i + 1)) (i + 1))
drop_bucket o blocks low n i gone l = ap (λ (j : ℕ). drop_buckets o blocks low j i gone) (turn n i l) ∙ one_more o blocks low (n - (i + 1)) i gone

pub no_bucket : (o blocks low n i gone : ℕ) → n ≤ i → drop_buckets o blocks low (n - i) i gone ≡ count_gone_program o gone
no_bucket o blocks low n i gone l = ap (λ (j : ℕ). drop_buckets o blocks low j i gone) (none_left n i l) ∙ no_more o blocks low i gone

-- where dropping begins, after a bucket, and behind the last
pub begins : (plot : Plot) (p : Part) (low : ℕ) → HasStore plot p → IsDropping plot p low 0 0
begins plot p low h = record { fits = h.fits; memory = h.memory; first = h.store; part = h.part; state = at_first (base plot) plot.blocks low plot.few_blocks h.store h.memory h.stands }

pub next_bucket : (plot : Plot) (p q : Part) (low i gone g : ℕ) → i < bucket_count plot.blocks → IsDropping plot p low i gone → RunsProgram (drop_in plot i low gone) p q (Ok g) → IsDropping plot q low (i + 1) g
next_bucket plot p q low i gone g small h ran =
    let r = in_drops (base plot) plot.blocks low plot.few_blocks h.first i small h.memory gone h.state in
    let d = run_ended (base plot) (data_cell_count plot) (drop_in plot i low gone) p q h.memory g h.part r.0 ran.walk in
    record {
      fits = ap length ran.known ∙ h.fits;
      memory = _;
      first = h.first;
      part = d.part;
      state = subst (λ (x : ℕ). IsBetweenBuckets (base plot) plot.blocks low (i + 1) h.first (memory_after (drop_in plot i low gone) h.memory) x) (sym d.answers) r.1;
    }

pub all_dropped : (plot : Plot) (p : Part) (low i gone : ℕ) → IsDropping plot p low i gone → IsDropped plot p gone
all_dropped plot p low i gone h = record {
  fits = h.fits;
  keys = λ k e. let is : h.memory (keys_at (base plot)) ≡ k = h.part (keys_at (base plot)) k e in omega (arith, is, h.state.counted, h.state.fewer.count);
}
