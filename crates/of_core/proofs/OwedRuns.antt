-- Runs that a machine owes: what they see, and what comes of them.
use Rattle.std.proofs.Common.{◌≡◌, ℕ, ◌+◌, ◌<◌, ◌≤◌, List, [], length, get_or, take, Bool, true, false, refl, sym, ◌∙◌, ap, subst}
use Rattle.of_mem.specs.WriteSet.{WriteSet, IsWriteSet}
use Rattle.of_mem.specs.CellMap.{put_pair, put_all}
use Rattle.of_mem.specs.Meaning.{Meaning, WalkEnd, Needs, Gives, KnowsSome, HasDistinctCells}
use Rattle.of_mem.specs.Part.{Part, overlaid, write}
use Rattle.of_mem.proofs.CellPlaces.{put_all_take}
use Rattle.of_core.specs.declared.place.Place.{Place}
use Rattle.of_core.specs.declared.place.Place.TheVariants.{TryCell, LoadCell}
use Rattle.of_core.specs.Table.{Setup}
use Rattle.of_core.specs.Fit.{FitsPlace, IsScanning, is_scanning, is_reading}
use Rattle.of_core.specs.Machine.{CallState}
use Rattle.of_core.specs.MachineValue.{Machine, machine_setup, machine_after, KnowsState}
use Rattle.of_core.specs.Steps.{read_on, run_script, after_read_run, after_script_run}
use Rattle.of_core.specs.OwedRun.{load_for, owed_words, run_batch, run_end, make_run, after_run, OwesRun, LacksCell, at_load}
use Rattle.of_core.proofs.Puts.{put_all_apart, no_case}

-- puts of all entries of a write-set
pub put_whole : (w : WriteSet) → IsWriteSet w → put_all [] w.entries ≡ w.entries
put_whole w h = put_all_apart [] w.entries h.once

-- the load of a cell is on the table if the cell is
pub load_fits : (S : Setup) (d : CallState) (p : Place) (b : Bool) (x a : ℕ) → p ≡ load_for b x → a < S.cells → FitsPlace S d p → FitsPlace S (record d { place = load_for b a }) (load_for b a)
load_fits S d p true x a q l f =
    let s = (subst (FitsPlace S d) q f).0 in
    (record { scan = s.scan; few = s.few; under = s.under }, l)
load_fits S d p false x a q l f = l

-- in a scan
pub scan_fits : (S : Setup) (d : CallState) (p : Place) (b : Bool) (x : ℕ) → p ≡ load_for b x → b ≡ true → FitsPlace S d p → IsScanning S d
scan_fits S d p true x q e f = (subst (FitsPlace S d) q f).0
scan_fits S d p false x q e f = no_case e

-- at the load of another cell the machine is in a scan, or in a try, as it was
pub still_scanning : {X : Type 0} (p : Place) (b : Bool) (x a : ℕ) → p ≡ load_for b x → (is_scanning p ≡ true → X) → is_scanning (load_for b a) ≡ true → X
still_scanning p true x a q h e = h (ap is_scanning q)
still_scanning p false x a q h e = no_case e

pub still_reading : {X : Type 0} (p : Place) (b : Bool) (x a : ℕ) → p ≡ load_for b x → (is_reading p ≡ true → X) → is_reading (load_for b a) ≡ true → X
still_reading p true x a q h e = no_case e
still_reading p false x a q h e = h (ap is_reading q)

-- a run of a try reads
pub reads_at : (p : Place) (b : Bool) (x : ℕ) → p ≡ load_for b x → b ≡ false → is_reading p ≡ true
reads_at p true x q e = no_case (sym e)
reads_at p false x q e = ap is_reading q

-- a run that needs a cell leads to the load of this cell
lacked_call : (S : Setup) (d : CallState) (b : Bool) (a : ℕ) → S.meaning.walk (overlaid d.known (run_batch b d)) (owed_words b d) ≡ Needs a → record d { place = load_for b a } ≡ make_run b S d
lacked_call S d true a w = sym (ap (after_script_run S d) w)
lacked_call S d false a w = sym (ap (after_read_run d) w)

module _ {X : Type 0} (meaning : X → Meaning) (m : Machine X) where
  pub lacked : (a : ℕ) → LacksCell meaning m a → at_load m a ≡ after_run meaning m
  lacked a w = ap (λ (d : CallState). record m { call = d }) (lacked_call (machine_setup meaning m) m.call (is_scanning m.call.place) a w)

  -- the run of a script
  pub run_of_script : (r : WalkEnd) → is_scanning m.call.place ≡ true → run_end meaning m ≡ r → (meaning m.work).walk (overlaid m.call.known m.call.log) m.call.script ≡ r
  run_of_script r e w = subst (λ (b : Bool). (meaning m.work).walk (overlaid m.call.known (run_batch b m.call)) (owed_words b m.call) ≡ r) e w

  pub after_script : is_scanning m.call.place ≡ true → after_run meaning m ≡ machine_after meaning run_script m
  after_script e = ap (λ (b : Bool). record m { call = make_run b (machine_setup meaning m) m.call }) e

  pub after_read : is_scanning m.call.place ≡ false → after_run meaning m ≡ machine_after meaning read_on m
  after_read e = ap (λ (b : Bool). record m { call = make_run b (machine_setup meaning m) m.call }) e

  module _ (lawful : X → List ℕ → Type 0) (o : OwesRun meaning lawful m) where
    pub script_words : is_scanning m.call.place ≡ true → 1 ≤ length m.call.script
    script_words e = subst (λ (b : Bool). 1 ≤ length (owed_words b m.call)) e o.some

    pub script_state : is_scanning m.call.place ≡ true → KnowsState lawful m (overlaid m.call.known m.call.log)
    script_state e = subst (λ (b : Bool). KnowsSome (lawful m.work) m.cells (overlaid m.call.known (run_batch b m.call))) e o.knows

    pub try_words : is_scanning m.call.place ≡ false → 1 ≤ length m.call.op
    try_words e = subst (λ (b : Bool). 1 ≤ length (owed_words b m.call)) e o.some

    pub try_state : is_scanning m.call.place ≡ false → KnowsState lawful m m.call.known
    try_state e = subst (λ (b : Bool). KnowsSome (lawful m.work) m.cells (overlaid m.call.known (run_batch b m.call))) e o.knows

-- a machine at the load of a cell for a run owes this run
module _ {X : Type 0} (meaning : X → Meaning) (lawful : X → List ℕ → Type 0) (m : Machine X) (a : ℕ) where
  pub owes_try : m.call.place ≡ TryCell a → (meaning m.work).reads_only m.call.op ≡ true → 1 ≤ length m.call.op → length m.call.known ≡ m.cells → KnowsState lawful m m.call.known → OwesRun meaning lawful m
  owes_try q reads some size knows =
      let e : is_scanning m.call.place ≡ false = ap is_scanning q in
      record {
        at_load = (a, q ∙ ap (λ (b : Bool). load_for b a) (sym e));
        reads = λ _. reads;
        some = subst (λ (b : Bool). 1 ≤ length (owed_words b m.call)) (sym e) some;
        size = size;
        knows = subst (λ (b : Bool). KnowsSome (lawful m.work) m.cells (overlaid m.call.known (run_batch b m.call))) (sym e) knows;
      }

  pub owes_script : m.call.place ≡ LoadCell a → 1 ≤ length m.call.script → length m.call.known ≡ m.cells → KnowsState lawful m (overlaid m.call.known m.call.log) → OwesRun meaning lawful m
  owes_script q some size knows =
      let e : is_scanning m.call.place ≡ true = ap is_scanning q in
      record {
        at_load = (a, q ∙ ap (λ (b : Bool). load_for b a) (sym e));
        reads = λ n. no_case (sym n ∙ e);
        some = subst (λ (b : Bool). 1 ≤ length (owed_words b m.call)) (sym e) some;
        size = size;
        knows = subst (λ (b : Bool). KnowsSome (lawful m.work) m.cells (overlaid m.call.known (run_batch b m.call))) (sym e) knows;
      }

-- the script has written one entry more
pub wrote_part : (p q u : Part) (es : List (ℕ × ℕ)) (i a v : ℕ) → q ≡ record p { script = put_all [] (take i es) } → u ≡ write q a v → (a, v) ≡ get_or es i (0, 0) → i < length es → u ≡ record p { script = put_all [] (take (i + 1) es) }
unfolding write
wrote_part p q u es i a v e w is l =
    w ∙ ap (λ (d : Part). write d a v) e ∙ ap (λ (ds : List (ℕ × ℕ)). record p { script = ds })
    (ap (λ (x : ℕ × ℕ). put_pair (put_all [] (take i es)) x.0 x.1) is ∙ sym (put_all_take [] es i (0, 0) l))

-- ---- places that are the load of a cell for a run, and others
abbrev pub is_load : Place → Bool
is_load (TryCell a) = true
is_load (LoadCell a) = true
is_load p = false

pub no_load : {P : Type 0} (p : Place) (b : Bool) (a : ℕ) → (p ≡ TryCell a → ⊥) → (p ≡ LoadCell a → ⊥) → p ≡ load_for b a → P
no_load p true a t s e = absurd (s e)
no_load p false a t s e = absurd (t e)

pub other_place : {P : Type 0} (p : Place) (b : Bool) (a : ℕ) → is_load p ≡ false → p ≡ load_for b a → P
other_place p true a n e = no_case (sym n ∙ ap is_load e)
other_place p false a n e = no_case (sym n ∙ ap is_load e)

pub same_try : (b : Bool) (x a : ℕ) → TryCell x ≡ load_for b a → (b ≡ false) × (x ≡ a)
same_try true x a e = absurd (let k : TryCell x ≡ LoadCell a = e in cc)
same_try false x a e = let k : TryCell x ≡ TryCell a = e in (refl, cc)

pub same_script : (b : Bool) (x a : ℕ) → LoadCell x ≡ load_for b a → (b ≡ true) × (x ≡ a)
same_script true x a e = let k : LoadCell x ≡ LoadCell a = e in (refl, cc)
same_script false x a e = absurd (let k : LoadCell x ≡ TryCell a = e in cc)

pub not_script : (p : Place) (b : Bool) (a : ℕ) → p ≡ load_for b a → (p ≡ LoadCell a → ⊥) → false ≡ b
not_script p true a q n = absurd (n q)
not_script p false a q n = refl
