-- What two readings of one source have in common: the bytes, their parts, and what these spell.
use Rattle.std.proofs.Common.{◌≡◌, ◌≤◌, ℕ, zero, suc, List, [], Option, None, Some, length, ◌++◌, sym, ap, subst, ◌∙◌, arith, append-nil, length-append}
use Rattle.std.specs.Io.KnownBytes.{Consumes, IsAtEnd}
use Rattle.of_io.specs.Faults.{TakesMoreThan, TakesAtMost}
use Rattle.of_plan.specs.Plan.{Plan}
use Rattle.of_plan.specs.Grammar.{SpellsPlan}
use Rattle.of_plan.specs.Parts.{AreParts, HasOneCut}
use Rattle.of_tool.specs.declared.commands.TheConstants.{MOST_INPUT}
use Rattle.of_tool.specs.Seen.{Change, ReadsAll}
use Rattle.of_tool.specs.Cutting.{IsPart}
use Rattle.of_tool.specs.Inputs.{ReadsPlan, ReadsNoPlan, ReadsBoth, ReadsNoFirst, ReadsOne, ReadsBehind, ReadsNoSecond, ReadsFour, ReadsNoLifePlan}

-- ---- bytes

all_taken : (bytes taken : List ℕ) (after : Option (List ℕ)) → Consumes (Some bytes) after taken → IsAtEnd after → bytes ≡ taken
all_taken bytes taken None h end = absurd h
all_taken bytes taken (Some rest) h end = h ∙ ap (λ (t : List ℕ). taken ++ t) end ∙ append-nil taken

pub more_bytes : (n : ℕ) (bytes : List ℕ) (after : Option (List ℕ)) → TakesMoreThan n (Some bytes) after → length bytes ≤ n → ⊥
more_bytes n bytes None t few = absurd t.2
more_bytes n bytes (Some rest) t few = omega (arith, ap length t.2, length-append t.0 rest)

-- more bytes and no more bytes than so many were taken
more_and_few : (n : ℕ) (bytes : List ℕ) (after : Option (List ℕ)) → TakesMoreThan n (Some bytes) after → TakesAtMost n (Some bytes) after → ⊥
more_and_few n bytes None t u = absurd t.2
more_and_few n bytes (Some rest) t u = omega (arith, ap length (sym t.2 ∙ u.2), length-append t.0 rest, length-append u.0 rest)

module _ (source : Change) (all : List ℕ) (known : source.before ≡ Some all) where
  pub not_both : (n : ℕ) → TakesMoreThan n source.before source.after → TakesAtMost n source.before source.after → ⊥
  not_both n t u =
      let P : Option (List ℕ) → Type 0 = λ left. TakesMoreThan n left source.after in
      let Q : Option (List ℕ) → Type 0 = λ left. TakesAtMost n left source.after in
      more_and_few n all source.after (subst P known t) (subst Q known u)

  -- all bytes were read
  pub read_is : (most : ℕ) (bytes : List ℕ) → ReadsAll most source bytes → all ≡ bytes
  read_is most bytes r = let P : Option (List ℕ) → Type 0 = λ left. Consumes left source.after bytes in all_taken all bytes source.after (subst P known r.taken) r.ended

  pub same_read : (m n : ℕ) (b c : List ℕ) → ReadsAll m source b → ReadsAll n source c → b ≡ c
  same_read m n b c r s = sym (read_is m b r) ∙ read_is n c s

  pub not_longer : (most : ℕ) (bytes : List ℕ) → ReadsAll most source bytes → TakesMoreThan most source.before source.after → ⊥
  not_longer most bytes r t =
      let P : Option (List ℕ) → Type 0 = λ left. TakesMoreThan most left source.after in
      more_bytes most all source.after (subst P known t) (omega (arith, ap length (read_is most bytes r), r.few))

  -- ---- a plan alone

  pub no_plan : (plan : Plan) (line : ℕ) → ReadsPlan source plan → ReadsNoPlan source line → ⊥
  no_plan plan line r n =
      let P : List ℕ → Type 0 = λ bytes. SpellsPlan bytes plan in
      n.bad.none (plan, subst P (same_read MOST_INPUT MOST_INPUT r.0 n.bytes r.1 n.read) r.2)

  -- ---- an image alone

  pub no_one : {P Q : List ℕ → Type 0} → ((text : List ℕ) → P text → Q text → ⊥) → ReadsOne P source → ReadsOne Q source → ⊥
  no_one {P} {Q} apart r n = apart n.bytes (subst P (same_read _ _ r.bytes n.bytes r.read n.read) r.is) n.is

  module _ (one_cut : HasOneCut) where
    pub cut_same : (b c first second one other : List ℕ) → b ≡ c → AreParts b first second → AreParts c one other → (first ≡ one) × (second ≡ other)
    cut_same b c first second one other e h k = let P : List ℕ → Type 0 = λ bytes. AreParts bytes first second in one_cut c first second one other (subst P e h) k

    -- ---- a plan and a report

    pub no_first : (plan : Plan) (report : List ℕ) (line : ℕ) → ReadsBoth source plan report → ReadsNoFirst source line → ⊥
    no_first plan report line r n =
        let cut = cut_same r.bytes n.bytes r.first report n.first n.report (same_read _ _ r.bytes n.bytes r.read n.read) r.parts n.parts in
        let P : List ℕ → Type 0 = λ text. SpellsPlan text plan in
        n.bad.none (plan, subst P cut.0 r.spelled)

    pub both_same : (plan other : Plan) (report told : List ℕ) (r : ReadsBoth source plan report) (s : ReadsBoth source other told) → (r.first ≡ s.first) × (report ≡ told)
    both_same plan other report told r s = cut_same r.bytes s.bytes r.first report s.first told (same_read _ _ r.bytes s.bytes r.read s.read) r.parts s.parts

    -- ---- an image and a plan

    pub no_second : {P : List ℕ → Type 0} (plan : Plan) (line : ℕ) → ReadsBehind P source plan → ReadsNoSecond source line → ⊥
    no_second plan line r n =
        let cut = cut_same r.bytes n.bytes r.first r.second n.first n.second (same_read _ _ r.bytes n.bytes r.read n.read) r.parts n.parts in
        let Q : List ℕ → Type 0 = λ text. SpellsPlan text plan in
        n.bad.none (plan, subst Q cut.1 r.spelled)

    pub behind_same : {P Q : List ℕ → Type 0} (plan other : Plan) (r : ReadsBehind P source plan) (s : ReadsBehind Q source other) → (r.first ≡ s.first) × (r.second ≡ s.second)
    behind_same plan other r s = cut_same r.bytes s.bytes r.first r.second s.first s.second (same_read _ _ r.bytes s.bytes r.read s.read) r.parts s.parts

    pub no_behind : {P Q : List ℕ → Type 0} → ((text : List ℕ) → P text → Q text → ⊥) → (plan other : Plan) → ReadsBehind P source plan → ReadsBehind Q source other → ⊥
    no_behind {P} {Q} apart plan other r s = apart s.first (subst P (behind_same plan other r s).0 r.is) s.is

    -- ---- an image, a plan, a report and an image

    pub no_life_plan : {P : List ℕ → Type 0} (plan : Plan) (told left : List ℕ) (line : ℕ) → ReadsFour P source plan told left → ReadsNoLifePlan source line → ⊥
    no_life_plan plan told left line r n =
        let cut = cut_same r.bytes n.bytes r.first r.behind n.first n.behind (same_read _ _ r.bytes n.bytes r.read n.read) r.parts n.parts in
        let next = cut_same r.behind n.behind r.second r.others n.second n.others cut.1 r.second_parts n.second_parts in
        let Q : List ℕ → Type 0 = λ text. SpellsPlan text plan in
        n.bad.none (plan, subst Q next.0 r.spelled)

    pub record AreSameFour {P Q : List ℕ → Type 0} (plan other : Plan) (told left said rest : List ℕ) (r : ReadsFour P source plan told left) (s : ReadsFour Q source other said rest) : Type 0 where
      pub first : r.first ≡ s.first
      pub second : r.second ≡ s.second
      pub told_is : told ≡ said
      pub left_is : left ≡ rest

    pub four_same : {P Q : List ℕ → Type 0} (plan other : Plan) (told left said rest : List ℕ) (r : ReadsFour P source plan told left) (s : ReadsFour Q source other said rest) → AreSameFour plan other told left said rest r s
    four_same plan other told left said rest r s =
        let cut = cut_same r.bytes s.bytes r.first r.behind s.first s.behind (same_read _ _ r.bytes s.bytes r.read s.read) r.parts s.parts in
        let next = cut_same r.behind s.behind r.second r.others s.second s.others cut.1 r.second_parts s.second_parts in
        let last = cut_same r.others s.others told left said rest next.1 r.last_parts s.last_parts in
        record { first = cut.0; second = next.0; told_is = last.0; left_is = last.1 }

    pub no_four : {P Q : List ℕ → Type 0} → ((text : List ℕ) → P text → Q text → ⊥) → (plan other : Plan) (told left said rest : List ℕ) → ReadsFour P source plan told left → ReadsFour Q source other said rest → ⊥
    no_four {P} {Q} apart plan other told left said rest r s = apart s.first (subst P (four_same plan other told left said rest r s).first r.is) s.is

    -- ---- any texts

    -- a text has one part with a number
    one_part : (number : ℕ) (b c part other : List ℕ) → b ≡ c → IsPart number b part → IsPart number c other → part ≡ other
    one_part zero b c part other e h k = absurd h
    one_part (suc zero) b c part other e h k = (cut_same b c part h.0 other k.0 e h.1 k.1).0
    one_part (suc (suc n)) b c part other e h k = one_part (suc n) h.1 k.1 part other (cut_same b c h.0 h.1 k.0 k.1 e h.2 k.2).1 h.3 k.3

    -- so one that is there is not missing
    pub no_fewer : (number : ℕ) (b c part : List ℕ) → b ≡ c → IsPart number b part → 1 ≤ length part → IsPart number c [] → ⊥
    no_fewer number b c part e h some k = omega (arith, ap length (one_part number b c part [] e h k), some)
