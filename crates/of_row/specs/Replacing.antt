-- What a member of a row learns by loads of the table, and what has become of its calls after
-- `Row::revive`.
use Rattle.std.specs.Prelude.{◌≡◌, ◌≤◌, ◌<◌, ℕ, List, [], ◌∷◌, ◌⊎◌}
use mathlib.Core.List.{IsPrefix}
use Rattle.of_mem.specs.Meaning.{Meaning}
use Rattle.of_core.specs.declared.remains.Remains.{Remains}
use Rattle.of_core.specs.Table.{Setup, announcement_of, script_words_of, committed_seq}
use Rattle.of_core.specs.Machine.{IsOpen}
use Rattle.of_core.specs.TableMoment.{TableStart}
use Rattle.of_core.specs.Bound.{bound}
use Rattle.of_core.specs.Events.{Event}
use Rattle.of_core.specs.Remains.{remains_of, MayRevive}
use Rattle.of_row.specs.declared.row.Row.{Row}
use Rattle.of_row.specs.declared.member.Member.{Member}
use Rattle.of_row.specs.declared.member.NotRevived.{NotRevived}
use Rattle.of_row.specs.declared.member.NotRevived.TheVariants.{NotYet, AtLimit, OutOfMemory}
use Rattle.of_row.specs.Views.{KnownCaller, View}
use Rattle.of_row.specs.Trail.{moment, IsToldBy}
use Rattle.of_row.specs.Rule.{HasOwn, HasOwnOnce, IsLegalFront}
use Rattle.of_row.specs.Revivals.{HasOwnPast, LearnsWord, TriesRevival, TakesOver, known_after_revival}
use Rattle.of_row.specs.Rows.{key_of, setup_at, row_start, view_of_member, caller_kept_by}

-- by loads that are no steps the view v has learnt of all events up to some moment, and is w now;
-- what it keeps of its callers is what these events lead to
pub record HasLearnt (S : Setup) (Lawful : List ℕ → Type 0) (B : TableStart) (v w : View)
    : Type 0 where
  pub is : w ≡ record v { past = w.past; looks = w.looks }
  pub past : IsPrefix v.past w.past
  pub looks : v.looks ≤ w.looks
  pub own : HasOwnPast S Lawful B w

-- What was loaded of caller i, one word after the other, is so in the words `ws`: its announcement
-- and its script words are there, and if by the loaded words a new machine may take the caller's
-- place, it may by `ws`.
pub record AreRemains (S : Setup) (ws : List ℕ) (i : ℕ) (r : Remains) : Type 0 where
  pub announcement : r.announcement ≡ announcement_of S ws i
  pub script : r.script ≡ script_words_of S ws i S.instrs
  pub may : MayRevive r i → MayRevive (remains_of S ws i) i

-- at a moment after the events that v knew, and no later than those that w knows, P holds of the
-- words
abbrev pub WasSoBetween : Setup → TableStart → (v w : View) → (List ℕ → Type 0) → Type 0
WasSoBetween S B v w P =
    (es : List Event) × IsPrefix v.past es × IsPrefix es w.past × P (moment S B es).words

-- no new machine may take the place of caller i's machine
abbrev pub MayNotRevive : Setup → (i : ℕ) → List ℕ → Type 0
MayNotRevive S i ws = MayRevive (remains_of S ws i) i → ⊥

-- the sequence has come to the limit
abbrev pub IsAtLimit : Setup → List ℕ → Type 0
IsAtLimit S ws = S.limit ≤ committed_seq ws

-- the view w is the view v with more that was seen, with other callers, a longer past and more loads
abbrev pub IsLaterView : (v w : View) → Type 0
IsLaterView v w =
    w ≡ record v { seen = w.seen; kept = w.kept; past = w.past; looks = w.looks }

-- A new machine has taken the place of the lost one of the caller x that the view v kept; v is the
-- view w now, which keeps y. The new machine was made from the words at some moment meanwhile.
pub record GetsMachine (S : Setup) (Lawful : List ℕ → Type 0) (B : TableStart) (v : View)
    (x : KnownCaller) (w : View) (y : KnownCaller) : Type 0 where
  pub is : IsLaterView v w
  pub kept : w.kept ≡ y ∷ []
  pub from : (es : List Event) × IsPrefix v.past es × IsPrefix es w.past
      × (y ≡ known_after_revival S (moment S B es) x)
  -- what has become of the caller's calls
  pub takes_over : TakesOver x y
  -- nothing that was seen is lost, and the past only gets longer
  pub seen : IsPrefix v.seen w.seen
  pub past : IsPrefix v.past w.past
  -- what is kept of the caller agrees with what was seen and with the past, as after a step
  pub legal : IsLegalFront S B w.seen
  pub own : HasOwn S B w.seen y
  pub once : HasOwnOnce S B w.seen y
  pub told : IsToldBy S B w.past x.machine.caller y
  -- an open call that goes on has made a step, and fewer steps than the bound
  pub started : IsOpen y.machine.place → 0 < y.machine.steps
  pub within : IsOpen y.machine.place → y.machine.steps < bound S

-- the view v, which kept x, is w now: it has only learnt of events, or a new machine has taken the
-- place of the lost one
abbrev pub LearntOrRevived : Setup → (List ℕ → Type 0) → TableStart → View → KnownCaller → View
    → KnownCaller → Type 0
LearntOrRevived S L B v x w y = HasLearnt S L B v w ⊎ GetsMachine S L B v x w y

-- why there is no new machine, and what the member has become
abbrev pub RefusesMachine : Setup → (List ℕ → Type 0) → TableStart → View → KnownCaller → View
    → KnownCaller → NotRevived → Type 0
RefusesMachine S L B v x w y (NotYet reason) =
    HasLearnt S L B v w × WasSoBetween S B v w (MayNotRevive S x.machine.caller)
RefusesMachine S L B v x w y AtLimit =
    LearntOrRevived S L B v x w y × WasSoBetween S B v w (IsAtLimit S)
RefusesMachine S L B v x w y (OutOfMemory error) = LearntOrRevived S L B v x w y

-- the same on a row
abbrev pub LearnsWordAt : {W : Type 0} → (W → Meaning) → (W → List ℕ → Type 0) → Row W → (c : ℕ)
    → View → ℕ → View → Type 0
LearnsWordAt meaning lawful r c v n w =
    LearnsWord (setup_at meaning r) (lawful (key_of r).work) (row_start meaning r) c v n w

abbrev pub TriesRevivalAt : {W : Type 0} → (W → Meaning) → (W → List ℕ → Type 0) → Row W → (c : ℕ)
    → View → ℕ → View → Type 0
TriesRevivalAt meaning lawful r c v n w =
    TriesRevival (setup_at meaning r) (lawful (key_of r).work) (row_start meaning r) c v n w

abbrev pub HasLearntAt : {W : Type 0} → (W → Meaning) → (W → List ℕ → Type 0) → Row W → View → View
    → Type 0
HasLearntAt meaning lawful r v w =
    HasLearnt (setup_at meaning r) (lawful (key_of r).work) (row_start meaning r) v w

abbrev pub HasOwnPastAt : {W : Type 0} → (W → Meaning) → (W → List ℕ → Type 0) → Row W → View
    → Type 0
HasOwnPastAt meaning lawful r v =
    HasOwnPast (setup_at meaning r) (lawful (key_of r).work) (row_start meaning r) v

-- a new machine has taken the place of the lost machine of the member p, which is q now
abbrev pub RevivesMember : {W : Type 0} → (W → Meaning) → (W → List ℕ → Type 0) → Row W
    → (before now : Member) → Type 0
RevivesMember meaning lawful r p q =
    GetsMachine (setup_at meaning r) (lawful (key_of r).work) (row_start meaning r)
    (view_of_member p) (caller_kept_by p) (view_of_member q) (caller_kept_by q)

-- why the member p, which is q now, has got no new machine
abbrev pub RefusesMember : {W : Type 0} → (W → Meaning) → (W → List ℕ → Type 0) → Row W
    → (before now : Member) → NotRevived → Type 0
RefusesMember meaning lawful r p q error =
    RefusesMachine (setup_at meaning r) (lawful (key_of r).work) (row_start meaning r)
    (view_of_member p) (caller_kept_by p) (view_of_member q) (caller_kept_by q) error
