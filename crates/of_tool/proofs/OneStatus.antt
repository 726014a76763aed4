-- A call has one status, and an error one text. Causes have ranks, in the order in which they are asked for: an input that
-- is refused for one of them has none of a lower rank, and one that a command is done with has none.
use Rattle.std.proofs.Common.{◌≡◌, ◌<◌, ◌≤◌, ◌⊎◌, inl, inr, ℕ, zero, suc, List, Option, None, Some, refl, sym, ap, subst, ◌∙◌, arith}
use Rattle.std.specs.Prelude.{◌^◌, ◌-◌, ◌+◌, min, IsTrue}
use Rattle.std.proofs.lemmas.Bool.{cases_lt}
use Rattle.std.proofs.lemmas.Bool.Decides.{eqb_tells}
use Rattle.of_io.specs.Faults.{HasRisen, TakesMoreThan}
use Rattle.of_plan.specs.Plan.{Plan}
use Rattle.of_plan.specs.Grammar.{SpellsPlan, IsPlanText}
use Rattle.of_plan.specs.BadLine.{HasBadLine}
use Rattle.of_plan.specs.Parts.{HasOneCut}
use Rattle.of_check.specs.Verdict.{IsLegalText}
use Rattle.of_image.specs.declared.version.Version.{Version as Edition}
use Rattle.of_image.specs.declared.version.Version.TheVariants.{One, Two}
use Rattle.of_image.specs.ImageText.{IsImageText}
use Rattle.of_image.specs.Parsed.{ReadsImage, IsUnlawful, UnlawfulHaveNone, OneImage, HasOneFault}
use Rattle.of_lives.specs.Images.{PlanFitsImage}
use Rattle.of_report.specs.Image.{Image as AnImage}
use Rattle.of_tool.specs.declared.commands.TheConstants.{MOST_INPUT, MOST_WITH_REPORT, MOST_IMAGE}
use Rattle.of_tool.specs.declared.command.Command.{Command}
use Rattle.of_tool.specs.declared.command.Command.TheVariants.{Serial, Play, Trace, Commits, Run, Load, Check, CheckLife, Part, Image, Recover, Renumber, Migrate, Continue, Help, Version}
use Rattle.of_tool.specs.declared.status.TheConstants.{DONE, READ_FAULT, BAD_PLAN, TOO_LONG, BAD_IMAGE, ILLEGAL, DOES_NOT_FIT}
use Rattle.of_tool.specs.Lives.{IsLegalLife}
use Rattle.of_tool.specs.Seen.{Change, ReadsAll, CanRise}
use Rattle.of_tool.specs.Inputs.{Input, PlanAlone, PlanAndReport, ImageAlone, ImageAndPlan, WholeLife, AnyTexts, input_of, most_of, ReadsPlan, ReadsBoth, ReadsLegal, ReadsOne, ReadsBehind, ReadsLife, ReadsFour, ReadsLived, ReadsLegalLife, ReadsPart}
use Rattle.of_tool.specs.declared.refusal.Refusal.{Refusal}
use Rattle.of_tool.specs.declared.refusal.Refusal.TheVariants.{ReadFault, TooLong, BadPlan, BadImage, UnlawfulImage, DoesNotFit, Illegal}
use Rattle.of_tool.specs.Refusals.{status_of, ReadFails, HasBadPlan, HasBadImage, HasMisfit, IsIllegal, IsRefused, text_of}
use Rattle.of_tool.specs.Makes.{Makes}
use Rattle.of_tool.specs.Statuses.{IsAnswerTo, Done, Refused, IsAnswer, To, NoCommand, Told, WriteFault, OutOfMemory, OneStatus, OneError}
use Rattle.of_tool.proofs.Telling.{answer_to}
use Rattle.of_tool.proofs.Completeness.{no_bad_line, no_fault_cell}
use Rattle.of_tool.proofs.Readings.{cut_same, same_read, not_both, not_longer, no_plan, no_one, no_first, both_same, no_second, behind_same, no_behind, no_life_plan, four_same, no_four, no_fewer}

-- ---- a text has one bad line

one_bad_line : (Is : List ℕ → Type 0) (text : List ℕ) (a b : ℕ) → HasBadLine Is text a → HasBadLine Is text b → a ≡ b
one_bad_line Is text a b h k = elim (cases_lt a b) [
  | inl lt ↦ absurd (not_before a b lt h k)
  | inr ge ↦ elim (cases_lt b a) [ inl lt ↦ absurd (not_before b a lt k h) | inr le ↦ omega (arith, ge, le) ]
]
  where
    not_before : (a b : ℕ) → a < b → HasBadLine Is text a → HasBadLine Is text b → ⊥
    not_before a b lt h k = elim h.bad.there [ inl none ↦ none (k.bad.before a lt) | inr last ↦ omega (arith, lt, last, k.bad.last) ]

-- ---- ranks

-- the image of the input is none: a bad line, or a cell at fault
abbrev NoImage : Input → Change → Type 0
NoImage i s =
    ((line : ℕ) × HasBadImage (λ edition text. HasBadLine (IsImageText edition) text line) i s)
    ⊎ ((cell : ℕ) × HasBadImage (λ edition text. IsUnlawful edition text cell) i s)

-- the cause of a rank
abbrev Cause : ℕ → Input → Change → Type 0
Cause zero i s = TakesMoreThan (most_of i) s.before s.after
Cause (suc zero) i s = ReadFails (most_of i) s
Cause (suc (suc zero)) i s = (line : ℕ) × HasBadPlan i s line
Cause (suc (suc (suc zero))) i s = NoImage i s
Cause (suc (suc (suc (suc zero)))) i s = HasMisfit i s
Cause (suc (suc (suc (suc (suc zero))))) i s = IsIllegal i s
Cause (suc (suc (suc (suc (suc (suc n)))))) i s = Unit {0}

-- there is no cause of a lower rank
abbrev Passes : ℕ → Input → Change → Type 0
Passes zero i s = Unit {0}
Passes (suc n) i s = Passes n i s × (Cause n i s → ⊥)

pick : (n k : ℕ) (i : Input) (s : Change) → k < n → Passes n i s → Cause k i s → ⊥
pick zero k i s lt p c = absurd (omega (arith, lt))
pick (suc n) k i s lt p c = elim (eqb_tells k n) [
  | inl h ↦ (let P : ℕ → Type 0 = λ m. Cause m i s in p.1 (subst P h.1 c))
  | inr h ↦ (let ne = h.1 in pick n k i s (omega arith) p.0 c)
]

-- the status of a rank
abbrev status_at : ℕ → ℕ
status_at zero = TOO_LONG
status_at (suc zero) = READ_FAULT
status_at (suc (suc zero)) = BAD_PLAN
status_at (suc (suc (suc zero))) = BAD_IMAGE
status_at (suc (suc (suc (suc zero)))) = DOES_NOT_FIT
status_at (suc (suc (suc (suc (suc zero))))) = ILLEGAL
status_at (suc (suc (suc (suc (suc (suc n)))))) = DONE

-- a status with the cause of its rank, and with none of a lower one
record Ranked (i : Input) (s : Change) (status : ℕ) : Type 0 where
  rank : ℕ
  cause : Cause rank i s
  passes : Passes rank i s
  status_is : status ≡ status_at rank

-- two such are one
one_rank : (i : Input) (s : Change) (a b : ℕ) → Ranked i s a → Ranked i s b → a ≡ b
one_rank i s a b x y = elim (cases_lt x.rank y.rank) [
  | inl lt ↦ absurd (pick y.rank x.rank i s lt y.passes x.cause)
  | inr ge ↦ elim (cases_lt y.rank x.rank) [
    | inl lt ↦ absurd (pick x.rank y.rank i s lt x.passes y.cause)
    | inr le ↦ (let same : x.rank ≡ y.rank = omega (arith, ge, le) in x.status_is ∙ ap status_at same ∙ sym y.status_is)
  ]
]

-- ---- what was read

-- a count that can rise and stays has not risen
stays : (n m : ℕ) → CanRise n → m ≡ n → HasRisen n m → ⊥
stays n m can same rose = let P : ℕ → Type 0 = λ k. HasRisen n k in stayed n can (subst P same rose)
  where
    stayed : (n : ℕ) → n < 2 ^ 64 - 1 → min (n + 1) (2 ^ 64 - 1) ≤ n → ⊥
    stayed n can rose = omega arith

module _ (one_cut : HasOneCut) (one_plan : (text : List ℕ) (plan other : Plan) → SpellsPlan text plan → SpellsPlan text other → plan ≡ other) (one_image : OneImage) (none : UnlawfulHaveNone) (s : Change) (all : List ℕ) (known : s.before ≡ Some all) (can : CanRise s.faults) where
  -- an input that was read was not too long, and no read failed
  read_passes : (i : Input) (bytes : List ℕ) → ReadsAll (most_of i) s bytes → Passes 2 i s
  read_passes i bytes r = ((tt, not_longer s all known (most_of i) bytes r), λ fails. stays s.faults s.faults_after can r.no_fault fails.fault)

  -- ---- each kind of input

  plan_done : (plan : Plan) → ReadsPlan s plan → Passes 6 PlanAlone s
  plan_done plan r = ((((read_passes PlanAlone r.0 r.1, λ c. no_plan s all known plan c.0 r c.1), λ c. elim c [ inl h ↦ h.1 | inr h ↦ h.1 ]), λ c. c), λ c. c)

  -- a plan and any text
  both_passes : (plan : Plan) (report : List ℕ) → ReadsBoth s plan report → Passes 5 PlanAndReport s
  both_passes plan report r = (((read_passes PlanAndReport r.bytes r.read, λ c. no_first s all known one_cut plan report c.0 r c.1), λ c. elim c [ inl h ↦ h.1 | inr h ↦ h.1 ]), λ c. c)

  report_done : ReadsLegal s → Passes 6 PlanAndReport s
  report_done l = (both_passes l.plan l.report l.read, wrong)
    where
      wrong : IsIllegal PlanAndReport s → ⊥
      wrong c =
          let same = both_same s all known one_cut l.plan c.plan l.report c.report l.read c.read in
          let P : List ℕ → Type 0 = λ text. SpellsPlan text l.plan in
          let plan = one_plan c.read.first l.plan c.plan (subst P same.0 l.read.spelled) c.read.spelled in
          let Q : Plan → Type 0 = λ p. IsLegalText p c.report in
          let R : List ℕ → Type 0 = λ text. IsLegalText l.plan text in
          c.illegal (subst Q plan (subst R same.1 l.legal))

  image_done : (edition : Edition) (image : AnImage) → ReadsOne (λ text. ReadsImage edition text image) s → Passes 6 (ImageAlone edition) s
  image_done edition image r = ((((read_passes (ImageAlone edition) r.bytes r.read, λ c. c.1), wrong), λ c. c), λ c. c)
    where
      wrong : NoImage (ImageAlone edition) s → ⊥
      wrong (inl h) = no_one s all known (λ text. no_bad_line h.0 edition text image) r h.1
      wrong (inr h) = no_one s all known (λ text. no_fault_cell none h.0 edition text image) r h.1

  -- a plan behind any text
  behind_passes : {P : List ℕ → Type 0} (plan : Plan) → ReadsBehind P s plan → Passes 3 ImageAndPlan s
  behind_passes plan r = (read_passes ImageAndPlan r.bytes r.read, λ c. no_second s all known one_cut plan c.0 r c.1)

  -- a plan behind an image
  life_passes : (image : AnImage) (plan : Plan) → ReadsLife s image plan → Passes 4 ImageAndPlan s
  life_passes image plan r = (behind_passes plan r, wrong)
    where
      wrong : NoImage ImageAndPlan s → ⊥
      wrong (inl h) = no_behind s all known one_cut (λ text. no_bad_line h.0 Two text image) plan h.1.0 r h.1.1
      wrong (inr h) = no_behind s all known one_cut (λ text. no_fault_cell none h.0 Two text image) plan h.1.0 r h.1.1

  life_done : (image : AnImage) (plan : Plan) → ReadsLife s image plan → PlanFitsImage image plan → Passes 6 ImageAndPlan s
  life_done image plan r fits = ((life_passes image plan r, wrong), λ c. c)
    where
      wrong : HasMisfit ImageAndPlan s → ⊥
      wrong c =
          let same = behind_same s all known one_cut plan c.plan r c.read in
          let P : List ℕ → Type 0 = λ text. ReadsImage Two text image in
          let Q : List ℕ → Type 0 = λ text. SpellsPlan text plan in
          let image_is = one_image Two c.read.first image c.image (subst P same.0 r.is) c.read.is in
          let plan_is = one_plan c.read.second plan c.plan (subst Q same.1 r.spelled) c.read.spelled in
          let F : AnImage → Type 0 = λ i. PlanFitsImage i c.plan in
          let G : Plan → Type 0 = λ p. PlanFitsImage image p in
          c.misfit (subst F image_is (subst G plan_is fits))

  -- four parts, the second of which is a plan
  four_passes : {P : List ℕ → Type 0} (plan : Plan) (told left : List ℕ) → ReadsFour P s plan told left → Passes 3 WholeLife s
  four_passes plan told left r = (read_passes WholeLife r.bytes r.read, λ c. no_life_plan s all known one_cut plan told left c.0 r c.1)

  -- and the first an image
  lived_passes : (image : AnImage) (plan : Plan) (told left : List ℕ) → ReadsLived s image plan told left → Passes 4 WholeLife s
  lived_passes image plan told left r = (four_passes plan told left r, wrong)
    where
      wrong : NoImage WholeLife s → ⊥
      wrong (inl h) = no_four s all known one_cut (λ text. no_bad_line h.0 Two text image) plan h.1.plan told left h.1.told h.1.left r h.1.read
      wrong (inr h) = no_four s all known one_cut (λ text. no_fault_cell none h.0 Two text image) plan h.1.plan told left h.1.told h.1.left r h.1.read

  -- the image and the plan of two readings are one
  record AreOne (image other : AnImage) (plan further : Plan) : Type 0 where
    image_is : image ≡ other
    plan_is : plan ≡ further

  lived_one : (image other : AnImage) (plan further : Plan) (told left said rest : List ℕ) → ReadsLived s image plan told left → ReadsLived s other further said rest → AreOne image other plan further
  lived_one image other plan further told left said rest r q =
      let same = four_same s all known one_cut plan further told left said rest r q in
      let P : List ℕ → Type 0 = λ text. ReadsImage Two text image in
      let Q : List ℕ → Type 0 = λ text. SpellsPlan text plan in
      record {
        image_is = one_image Two q.first image other (subst P same.first r.is) q.is;
        plan_is = one_plan q.second plan further (subst Q same.second r.spelled) q.spelled;
      }

  -- and the plan fits
  fitting_passes : (image : AnImage) (plan : Plan) (told left : List ℕ) → ReadsLived s image plan told left → PlanFitsImage image plan → Passes 5 WholeLife s
  fitting_passes image plan told left r fits = (lived_passes image plan told left r, wrong)
    where
      wrong : HasMisfit WholeLife s → ⊥
      wrong c =
          let one = lived_one image c.image plan c.plan told left c.told c.left r c.read in
          let F : AnImage → Type 0 = λ i. PlanFitsImage i c.plan in
          let G : Plan → Type 0 = λ p. PlanFitsImage image p in
          c.misfit (subst F one.image_is (subst G one.plan_is fits))

  whole_done : ReadsLegalLife s → Passes 6 WholeLife s
  whole_done l = (fitting_passes l.image l.plan l.told l.left l.read l.fits, wrong)
    where
      wrong : IsIllegal WholeLife s → ⊥
      wrong c =
          let one = lived_one l.image c.image l.plan c.plan l.told l.left c.told c.left l.read c.read in
          let same = four_same s all known one_cut l.plan c.plan l.told l.left c.told c.left l.read c.read in
          let F : AnImage → Type 0 = λ i. IsLegalLife i c.plan c.told c.left in
          let G : Plan → Type 0 = λ p. IsLegalLife l.image p c.told c.left in
          let H : List ℕ → Type 0 = λ t. IsLegalLife l.image l.plan t c.left in
          let K : List ℕ → Type 0 = λ t. IsLegalLife l.image l.plan l.told t in
          c.illegal (subst F one.image_is (subst G one.plan_is (subst H same.told_is (subst K same.left_is l.legal))))

  -- texts that were read
  texts_passes : (number : ℕ) (bytes : List ℕ) → ReadsAll (most_of (AnyTexts number)) s bytes → Passes 4 (AnyTexts number) s
  texts_passes number bytes r = ((read_passes (AnyTexts number) bytes r, λ c. c.1), λ c. elim c [ inl h ↦ h.1 | inr h ↦ h.1 ])

  -- and of which one has the number
  texts_done : (number : ℕ) (part : List ℕ) → ReadsPart number s part → Passes 6 (AnyTexts number) s
  texts_done number part r = ((texts_passes number r.bytes r.read, λ c. no_fewer s all known one_cut number r.bytes c.bytes part (same_read s all known MOST_WITH_REPORT MOST_WITH_REPORT r.bytes c.bytes r.read c.read) r.is r.some c.none), λ c. c)

  -- ---- an input that is refused has no cause of a lower rank

  no_plan_passes : (i : Input) (line : ℕ) → HasBadPlan i s line → Passes 2 i s
  no_plan_passes PlanAlone line h = read_passes PlanAlone h.bytes h.read
  no_plan_passes PlanAndReport line h = read_passes PlanAndReport h.bytes h.read
  no_plan_passes (ImageAlone edition) line h = absurd h
  no_plan_passes ImageAndPlan line h = read_passes ImageAndPlan h.bytes h.read
  no_plan_passes WholeLife line h = read_passes WholeLife h.bytes h.read
  no_plan_passes (AnyTexts number) line h = absurd h

  no_image_passes : (Is : Edition → List ℕ → Type 0) (i : Input) → HasBadImage Is i s → Passes 3 i s
  no_image_passes Is PlanAlone h = absurd h
  no_image_passes Is PlanAndReport h = absurd h
  no_image_passes Is (ImageAlone edition) h = (read_passes (ImageAlone edition) h.bytes h.read, λ c. c.1)
  no_image_passes Is ImageAndPlan h = behind_passes h.0 h.1
  no_image_passes Is WholeLife h = four_passes h.plan h.told h.left h.read
  no_image_passes Is (AnyTexts number) h = absurd h

  misfit_passes : (i : Input) → HasMisfit i s → Passes 4 i s
  misfit_passes PlanAlone h = absurd h
  misfit_passes PlanAndReport h = absurd h
  misfit_passes (ImageAlone edition) h = absurd h
  misfit_passes ImageAndPlan h = life_passes h.image h.plan h.read
  misfit_passes WholeLife h = lived_passes h.image h.plan h.told h.left h.read
  misfit_passes (AnyTexts number) h = texts_passes number h.bytes h.read

  illegal_passes : (i : Input) → IsIllegal i s → Passes 5 i s
  illegal_passes PlanAlone h = absurd h
  illegal_passes PlanAndReport h = both_passes h.plan h.report h.read
  illegal_passes (ImageAlone edition) h = absurd h
  illegal_passes ImageAndPlan h = absurd h
  illegal_passes WholeLife h = fitting_passes h.image h.plan h.told h.left h.read h.fits
  illegal_passes (AnyTexts number) h = absurd h

  refused_rank : (i : Input) (status : ℕ) (why : Refusal) → IsRefused i s why → status ≡ status_of why → Ranked i s status
  refused_rank i status TooLong h e = record { rank = 0; cause = h; passes = tt; status_is = e }
  refused_rank i status ReadFault h e = record { rank = 1; cause = h; passes = (tt, λ c. not_both s all known (most_of i) c h.few); status_is = e }
  refused_rank i status (BadPlan line) h e = record { rank = 2; cause = (line, h); passes = no_plan_passes i line h; status_is = e }
  refused_rank i status (BadImage line) h e = record { rank = 3; cause = inl (line, h); passes = no_image_passes _ i h; status_is = e }
  refused_rank i status (UnlawfulImage cell) h e = record { rank = 3; cause = inr (cell, h); passes = no_image_passes _ i h; status_is = e }
  refused_rank i status DoesNotFit h e = record { rank = 4; cause = h; passes = misfit_passes i h; status_is = e }
  refused_rank i status Illegal h e = record { rank = 5; cause = h; passes = illegal_passes i h; status_is = e }

  -- ---- one that a command is done with has none

  abbrev PassesAll : Option Input → Type 0
  PassesAll None = Unit {0}
  PassesAll (Some i) = Passes 6 i s

  done_passes : (c : Command) (text : List ℕ) → Makes c s text → PassesAll (input_of c)
  done_passes Serial text m = plan_done m.plan m.read
  done_passes Play text m = plan_done m.plan m.read
  done_passes (Trace first count) text m = plan_done m.plan m.read
  done_passes Commits text m = plan_done m.plan m.read
  done_passes Run text m = plan_done m.plan m.read
  done_passes (Load callers scripts) text m = tt
  done_passes Check text m = report_done m.legal
  done_passes CheckLife text m = whole_done m.legal
  done_passes (Part number) text m = texts_done number text m
  done_passes Image text m = plan_done m.plan m.read
  done_passes Recover text m = image_done Two m.image m.read
  done_passes Renumber text m = image_done Two m.image m.read
  done_passes Migrate text m = image_done One m.is.image (record { bytes = m.bytes; read = m.read; is = m.is.read })
  done_passes Continue text m = life_done m.image m.plan m.read m.life.goes_on.fits
  done_passes (Help word) text m = tt
  done_passes Version text m = tt

  done_rank : (c : Command) (i : Input) (status : ℕ) (text : List ℕ) → input_of c ≡ Some i → status ≡ DONE → Makes c s text → Ranked i s status
  done_rank c i status text reads done m = record { rank = 6; cause = tt; passes = subst PassesAll reads (done_passes c text m); status_is = done }

  ranked : (c : Command) (i : Input) (status : ℕ) (text : List ℕ) → input_of c ≡ Some i → IsAnswerTo c s status text → Ranked i s status
  ranked c i status text reads (Done is m) = done_rank c i status text reads is m
  ranked c i status text reads (Refused refusal) =
      let r = refusal.refused in
      let same : r.input ≡ i = (let e : ◌≡◌ {A = Option Input} (Some r.input) (Some i) = sym r.reads ∙ reads in cc) in
      let P : Input → Type 0 = λ k. IsRefused k s refusal.why in
      refused_rank i status refusal.why (subst P same r.cause) refusal.status_is

  one_answer : (c : Command) (a b : ℕ) (x y : List ℕ) → IsAnswerTo c s a x → IsAnswerTo c s b y → a ≡ b
  one_answer c a b x y (Done is m) (Done is_too n) = is ∙ sym is_too
  one_answer c a b x y (Done is m) (Refused r) = one_rank r.refused.input s a b (ranked c r.refused.input a x r.refused.reads (Done is m)) (ranked c r.refused.input b y r.refused.reads (Refused r))
  one_answer c a b x y (Refused r) q = one_rank r.refused.input s a b (ranked c r.refused.input a x r.refused.reads (Refused r)) (ranked c r.refused.input b y r.refused.reads q)

  pub one_told : (words : List (List ℕ)) (a b : ℕ) (x y : List ℕ) → IsAnswer words s a x → IsAnswer words s b y → a ≡ b
  one_told words a b x y (NoCommand none e t) (NoCommand none_too f u) = e ∙ sym f
  one_told words a b x y (NoCommand none e t) (To c is q) = absurd (none c is)
  one_told words a b x y (To c is p) q = one_answer c a b x y p (answer_to words c s b y is q)

  -- ---- the text of an error

  plan_line : (i : Input) (a b : ℕ) → HasBadPlan i s a → HasBadPlan i s b → a ≡ b
  plan_line PlanAlone a b h k =
      let P : List ℕ → Type 0 = λ text. HasBadLine IsPlanText text a in
      one_bad_line IsPlanText k.bytes a b (subst P (same_read s all known MOST_INPUT MOST_INPUT h.bytes k.bytes h.read k.read) h.bad) k.bad
  plan_line PlanAndReport a b h k =
      let cut = cut_same s all known one_cut h.bytes k.bytes h.first h.report k.first k.report (same_read s all known MOST_WITH_REPORT MOST_WITH_REPORT h.bytes k.bytes h.read k.read) h.parts k.parts in
      let P : List ℕ → Type 0 = λ text. HasBadLine IsPlanText text a in
      one_bad_line IsPlanText k.first a b (subst P cut.0 h.bad) k.bad
  plan_line (ImageAlone edition) a b h k = absurd h
  plan_line ImageAndPlan a b h k =
      let cut = cut_same s all known one_cut h.bytes k.bytes h.first h.second k.first k.second (same_read s all known MOST_WITH_REPORT MOST_WITH_REPORT h.bytes k.bytes h.read k.read) h.parts k.parts in
      let P : List ℕ → Type 0 = λ text. HasBadLine IsPlanText text a in
      one_bad_line IsPlanText k.second a b (subst P cut.1 h.bad) k.bad
  plan_line WholeLife a b h k =
      let cut = cut_same s all known one_cut h.bytes k.bytes h.first h.behind k.first k.behind (same_read s all known MOST_WITH_REPORT MOST_WITH_REPORT h.bytes k.bytes h.read k.read) h.parts k.parts in
      let next = cut_same s all known one_cut h.behind k.behind h.second h.others k.second k.others cut.1 h.second_parts k.second_parts in
      let P : List ℕ → Type 0 = λ text. HasBadLine IsPlanText text a in
      one_bad_line IsPlanText k.second a b (subst P next.0 h.bad) k.bad
  plan_line (AnyTexts number) a b h k = absurd h

  -- what two causes say of the image's text, they say of one
  image_text_same : (P Q : Edition → List ℕ → Type 0) (R : Type 0) → ((edition : Edition) (text : List ℕ) → P edition text → Q edition text → R) → (i : Input) → HasBadImage P i s → HasBadImage Q i s → R
  image_text_same P Q R both PlanAlone h k = absurd h
  image_text_same P Q R both PlanAndReport h k = absurd h
  image_text_same P Q R both (ImageAlone edition) h k = both edition k.bytes (subst (P edition) (same_read s all known MOST_IMAGE MOST_IMAGE h.bytes k.bytes h.read k.read) h.is) k.is
  image_text_same P Q R both ImageAndPlan h k = both Two k.1.first (subst (P Two) (behind_same s all known one_cut h.0 k.0 h.1 k.1).0 h.1.is) k.1.is
  image_text_same P Q R both WholeLife h k = both Two k.read.first (subst (P Two) (four_same s all known one_cut h.plan k.plan h.told h.left k.told k.left h.read k.read).first h.read.is) k.read.is
  image_text_same P Q R both (AnyTexts number) h k = absurd h

  -- a text with a cell at fault is in the grammar, so it has no bad line
  no_both : (line cell : ℕ) (edition : Edition) (text : List ℕ) → HasBadLine (IsImageText edition) text line → IsUnlawful edition text cell → ⊥
  no_both line cell edition text bad fault = bad.none (fault.raw, fault.spelled)

  module _ (one_fault : HasOneFault) where
    error_text : (c : Command) (i : Input) (x y : Refusal) → IsRefused i s x → IsRefused i s y → status_of x ≡ status_of y → text_of c x ≡ text_of c y
    error_text c i ReadFault ReadFault h k e = refl
    error_text c i ReadFault y h k e = absurd (omega (arith, e))
    error_text c i TooLong TooLong h k e = refl
    error_text c i TooLong y h k e = absurd (omega (arith, e))
    error_text c i (BadPlan a) (BadPlan b) h k e = ap (λ (n : ℕ). text_of c (BadPlan n)) (plan_line i a b h k)
    error_text c i (BadPlan a) y h k e = absurd (omega (arith, e))
    error_text c i (BadImage a) (BadImage b) h k e =
        ap (λ (n : ℕ). text_of c (BadImage n)) (image_text_same _ _ (a ≡ b) (λ edition text. one_bad_line (IsImageText edition) text a b) i h k)
    error_text c i (BadImage a) (UnlawfulImage b) h k e = absurd (image_text_same _ _ ⊥ (no_both a b) i h k)
    error_text c i (BadImage a) y h k e = absurd (omega (arith, e))
    error_text c i (UnlawfulImage a) (UnlawfulImage b) h k e =
        ap (λ (n : ℕ). text_of c (UnlawfulImage n)) (image_text_same _ _ (a ≡ b) (λ edition text. one_fault edition text a b) i h k)
    error_text c i (UnlawfulImage a) (BadImage b) h k e = absurd (image_text_same _ _ ⊥ (no_both b a) i k h)
    error_text c i (UnlawfulImage a) y h k e = absurd (omega (arith, e))
    error_text c i DoesNotFit DoesNotFit h k e = refl
    error_text c i DoesNotFit y h k e = absurd (omega (arith, e))
    error_text c i Illegal Illegal h k e = refl
    error_text c i Illegal y h k e = absurd (omega (arith, e))

    -- the status is not 0, so both refuse
    refused_text : (c : Command) (a b : ℕ) (x y : List ℕ) → IsAnswerTo c s a x → IsAnswerTo c s b y → a ≡ b → (a ≡ DONE → ⊥) → x ≡ y
    refused_text c a b x y (Done is m) q e failed = absurd (failed is)
    refused_text c a b x y (Refused r) (Done is m) e failed = absurd (failed (e ∙ is))
    refused_text c a b x y (Refused r) (Refused t) e failed =
        let i = t.refused.input in
        let same : r.refused.input ≡ i = (let both : ◌≡◌ {A = Option Input} (Some r.refused.input) (Some i) = sym r.refused.reads ∙ t.refused.reads in cc) in
        let P : Input → Type 0 = λ k. IsRefused k s r.why in
        r.text_is ∙ error_text c i r.why t.why (subst P same r.refused.cause) t.refused.cause (sym r.status_is ∙ e ∙ t.status_is) ∙ sym t.text_is

    pub one_said : (words : List (List ℕ)) (a b : ℕ) (x y : List ℕ) → IsAnswer words s a x → IsAnswer words s b y → (a ≡ DONE → ⊥) → x ≡ y
    one_said words a b x y (NoCommand none e t) (NoCommand none_too f u) failed = t ∙ sym u
    one_said words a b x y (NoCommand none e t) (To c is q) failed = absurd (none c is)
    one_said words a b x y (To c is p) q failed =
        let other = answer_to words c s b y is q in
        refused_text c a b x y p other (one_answer c a b x y p other) failed

-- ---- and what was written

pub one_status : HasOneCut → ((text : List ℕ) (plan other : Plan) → SpellsPlan text plan → SpellsPlan text other → plan ≡ other) → OneImage → UnlawfulHaveNone → OneStatus
one_status cut plan image none seen a b fresh (Told h) (Told k) = one_told cut plan image none seen.source fresh.bytes fresh.known fresh.source seen.words a b h.text k.text h.answer k.answer
one_status cut plan image none seen a b fresh (Told h) (WriteFault k) = absurd (stays seen.sink.faults seen.sink.faults_after fresh.sink h.no_fault k.fault)
one_status cut plan image none seen a b fresh (Told h) (OutOfMemory k) = absurd (fresh.unfinished (subst IsTrue k.untouched.finished h.written.finished))
one_status cut plan image none seen a b fresh (WriteFault h) (Told k) = absurd (stays seen.sink.faults seen.sink.faults_after fresh.sink k.no_fault h.fault)
one_status cut plan image none seen a b fresh (WriteFault h) (WriteFault k) = h.is ∙ sym k.is
one_status cut plan image none seen a b fresh (WriteFault h) (OutOfMemory k) = absurd (stays seen.sink.faults seen.sink.faults_after fresh.sink k.untouched.faults h.fault)
one_status cut plan image none seen a b fresh (OutOfMemory h) (Told k) = absurd (fresh.unfinished (subst IsTrue h.untouched.finished k.written.finished))
one_status cut plan image none seen a b fresh (OutOfMemory h) (WriteFault k) = absurd (stays seen.sink.faults seen.sink.faults_after fresh.sink h.untouched.faults k.fault)
one_status cut plan image none seen a b fresh (OutOfMemory h) (OutOfMemory k) = h.is ∙ sym k.is

pub one_error : HasOneCut → ((text : List ℕ) (plan other : Plan) → SpellsPlan text plan → SpellsPlan text other → plan ≡ other) → OneImage → UnlawfulHaveNone → HasOneFault → OneError
one_error cut plan image none fault seen a b x y fresh p q failed = one_said cut plan image none seen.source fresh.bytes fresh.known fresh.source fault seen.words a b x y p q failed
