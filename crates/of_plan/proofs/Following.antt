-- The lines that the reading takes to the end are exactly the lines of a heading, of entries that fit, and of the end, and the plan that is read is the one that the grammar gives.
use Rattle.std.proofs.Common.{◌≡◌, cond, inl, inr, ℕ, ◌+◌, ◌*◌, ◌<◌, ◌≤◌, false, eqb, List, [], ◌∷◌, ◌++◌, map, replicate, Option, Some, None, IfSome, refl, sym, ap, subst, ◌∙◌, append_assoc, arith}
use Rattle.std.specs.List.{AllByRecursion, filter_map, sum_by, range_with_len}
use Rattle.std.proofs.Math.Nat.{mul-le-mul_left}
use Rattle.std.proofs.lemmas.Bool.Decides.{eqb_tells}
use Rattle.std.proofs.lemmas.List.{append-nil}
use Rattle.std.proofs.lemmas.List.Sums.{sum_by-cons}
use Rattle.of_script.specs.Reading.{◌>>=◌}
use Rattle.of_script.proofs.Instrs.{bind_some, some_is}
use Rattle.of_plan.specs.declared.plan.Item.TheVariants.{Turns as TurnsItem}
use Rattle.of_plan.specs.declared.parser.line.BodyLine.{BodyLine}
use Rattle.of_plan.specs.declared.parser.line.BodyLine.TheVariants.{Script, Stop, Turns, Evict}
use Rattle.of_plan.specs.declared.parser.line.PlanLine.{PlanLine}
use Rattle.of_plan.specs.declared.parser.line.PlanLine.TheVariants.{Title, Callers, Blocks, Limit, Body, End}
use Rattle.of_plan.specs.declared.parser.state.Stage.{Stage}
use Rattle.of_plan.specs.declared.parser.state.Stage.TheVariants.{Start, Named, Counted, Sized, Body as InBody, Ended}
use Rattle.of_cell.specs.Cells.{durable_cells, log_room}
use Rattle.of_cell.proofs.Rooms.{room_upto}
use Rattle.of_mem.proofs.BucketPlaces.{few_behind}
use Rattle.of_plan.specs.Lines.{text_lines, line_words}
use Rattle.of_plan.specs.Plan.{Plan, turns_of, data_cells}
use Rattle.of_plan.specs.Grammar.{Heading, limit_lines, plan_lines, IsHeading, IsEntryInRange, AreEntries, SpellsPlan, item_of, scripts_in, stop_in}
use Rattle.of_plan.specs.LineReading.{IsLineInRange, plan_language}
use Rattle.of_plan.specs.Reading.{Reading, plan_read, nothing_read, with_entry, after_line, plan_reader}
use Rattle.of_plan.specs.Reader.{after_lines as follow_by}
use Rattle.of_plan.proofs.Lists.{all-both, map_const}
use Rattle.of_plan.proofs.Readings.{Reads}
use Rattle.of_plan.proofs.Entries.{after, added, adds, fewer}
use Rattle.of_plan.proofs.Entering.{taken, enters}

abbrev pub follow : Reading → List PlanLine → Option Reading
follow p ls = follow_by plan_language plan_reader p ls

-- the end was read
abbrev pub IsEnded : Reading → Type 0
IsEnded p = p.stage ≡ Ended

-- ---- what is read is a heading, entries and the end

-- lines between the heading and the last line
pub record Rest (h : Heading) (es : List BodyLine) (text_lines : List PlanLine) (last : Reading) : Type 0 where
  pub more : List BodyLine
  pub are : text_lines ≡ map Body more ++ End ∷ []
  pub fit : AreEntries h (es ++ more)
  pub is : after Ended h (es ++ more) ≡ last

-- after the end no line is taken
ended_last : (p last : Reading) (rest : List PlanLine) → p.stage ≡ Ended → follow p rest ≡ Some last → (rest ≡ []) × (p ≡ last)
ended_last p last [] at e = (refl, some_is p last e)
ended_last p last (l ∷ rest) at e = absurd (let stuck : follow p (l ∷ rest) ≡ None = none l in let both = sym stuck ∙ e in cc)
  where
    none : (l : PlanLine) → follow p (l ∷ rest) ≡ None
    none Title = rw at refl
    none (Callers n) = rw at refl
    none (Blocks n) = rw at refl
    none (Limit x) = rw at refl
    none (Body e) = rw at refl
    none End = rw at refl

body_read : (h : Heading) (es : List BodyLine) (text_lines : List PlanLine) (last : Reading) → AreEntries h es → AllByRecursion IsLineInRange text_lines → follow (after InBody h es) text_lines ≡ Some last → last.stage ≡ Ended → Rest h es text_lines last
body_read h es [] last a r e ended = absurd (let at : InBody ≡ Ended = ap (λ (p : Reading). p.stage) (some_is _ _ e) ∙ ended in cc)
body_read h es (Body entry ∷ text_lines) last a r e ended =
    let step = bind_some (with_entry (after InBody h es) entry) (λ q. follow q text_lines) last e in
    let t = taken InBody h es entry step.0 a r.0 step.1 in
    let later = body_read h (es ++ entry ∷ []) text_lines last (added h es entry a t.adds) r.1 (ap (λ (p : Reading). follow p text_lines) t.leads ∙ step.2) ended in
    record {
      more = entry ∷ later.more;
      are = ap (λ (ls : List PlanLine). Body entry ∷ ls) later.are;
      fit = subst (AreEntries h) (append_assoc es (entry ∷ []) later.more) later.fit;
      is = ap (after Ended h) (sym (append_assoc es (entry ∷ []) later.more)) ∙ later.is;
    }
body_read h es (End ∷ text_lines) last a r e ended =
    let end = ended_last (after Ended h es) last text_lines refl e in
    record {
      more = [];
      are = ap (λ (ls : List PlanLine). End ∷ ls) end.0;
      fit = subst (AreEntries h) (sym (append-nil es)) a;
      is = ap (after Ended h) (append-nil es) ∙ end.1;
    }
body_read h es (Title ∷ text_lines) last a r e ended = absurd cc
body_read h es (Callers n ∷ text_lines) last a r e ended = absurd cc
body_read h es (Blocks n ∷ text_lines) last a r e ended = absurd cc
body_read h es (Limit x ∷ text_lines) last a r e ended = absurd cc

pub record Said (text_lines : List PlanLine) (last : Reading) : Type 0 where
  pub heading : Heading
  pub entries : List BodyLine
  pub heading_fits : IsHeading heading
  pub entries_fit : AreEntries heading entries
  pub are : text_lines ≡ plan_lines heading entries
  pub is : after Ended heading entries ≡ last

no_entries : (h : Heading) → AreEntries h []
no_entries h = record { in_range = tt; few_scripts = omega arith; few_turns = omega arith; one_stop = λ c. omega arith }

abbrev with_limit : ℕ → ℕ → Option ℕ → Heading
with_limit n b limit = record { callers = n; blocks = b; limit = limit }

abbrev sized : ℕ → ℕ → Heading
sized n b = with_limit n b None

abbrev limited : ℕ → ℕ → ℕ → Heading
limited n b x = with_limit n b (Some x)

-- the reading once the callers are counted
abbrev counted : Stage → ℕ → ℕ → ℕ → Reading
counted stage n b limit = record { stage = stage; callers = n; blocks = b; limit = limit; scripts = replicate n []; stops = replicate n None; schedule = []; count = 0; turns = 0 }

sized_is : (stage : Stage) (n b : ℕ) → after stage (sized n b) [] ≡ counted stage n b 4294967294
sized_is stage n b =
    let scripts : map (scripts_in []) (range_with_len 0 n) ≡ replicate n [] = map_const [] 0 n in
    let stops : map (stop_in []) (range_with_len 0 n) ≡ replicate n None = map_const None 0 n in
    λ i. record { stage = stage; callers = n; blocks = b; limit = 4294967294; scripts = scripts i; stops = stops i; schedule = []; count = 0; turns = 0 }

limited_is : (stage : Stage) (n b x : ℕ) → after stage (limited n b x) [] ≡ counted stage n b x
limited_is stage n b x = ap (λ (p : Reading). record p { limit = x }) (sized_is stage n b)

-- a number that isn't 0 is taken
not_zero : (x : ℕ) (o : Option Reading) (q : Reading) → cond (eqb x 0) None o ≡ Some q → (1 ≤ x) × (o ≡ Some q)
not_zero x o q e = elim (eqb_tells x 0) [
  | inl p ↦ absurd (let z = rw p.0 at e in cc)
  | inr p ↦ (let ne = p.1 in omega arith, rw p.0 at e)
]

-- no limit was given
unlimited : (n b : ℕ) (text_lines : List PlanLine) (last : Reading) → 1 ≤ n → n ≤ 16 → b ≤ 512 → AllByRecursion IsLineInRange text_lines → follow (after InBody (sized n b) []) text_lines ≡ Some last → last.stage ≡ Ended → Said (Title ∷ Callers n ∷ Blocks b ∷ text_lines) last
unlimited n b text_lines last some few low r e ended =
    let rest = body_read (sized n b) [] text_lines last (no_entries _) r e ended in
    record {
      heading = sized n b;
      entries = rest.more;
      heading_fits = record { some_callers = some; few_callers = few; few_blocks = low; limit_range = tt };
      entries_fit = rest.fit;
      are = ap (λ (ls : List PlanLine). Title ∷ Callers n ∷ Blocks b ∷ ls) rest.are;
      is = rest.is;
    }

-- after the blocks
sized_read : (n b : ℕ) (text_lines : List PlanLine) (last : Reading) → 1 ≤ n → n ≤ 16 → b ≤ 512 → AllByRecursion IsLineInRange text_lines → follow (counted Sized n b 4294967294) text_lines ≡ Some last → last.stage ≡ Ended → Said (Title ∷ Callers n ∷ Blocks b ∷ text_lines) last
sized_read n b (Limit x ∷ text_lines) last some few low r e ended =
    let step = bind_some (after_line (counted Sized n b 4294967294) (Limit x)) (λ q. follow q text_lines) last e in
    let k = not_zero x (Some (counted InBody n b x)) step.0 step.1 in
    let rest = body_read (limited n b x) [] text_lines last (no_entries _) r.1 (ap (λ (p : Reading). follow p text_lines) (limited_is InBody n b x ∙ some_is _ _ k.1) ∙ step.2) ended in
    record {
      heading = limited n b x;
      entries = rest.more;
      heading_fits = record { some_callers = some; few_callers = few; few_blocks = low; limit_range = (k.0, r.0) };
      entries_fit = rest.fit;
      are = ap (λ (ls : List PlanLine). Title ∷ Callers n ∷ Blocks b ∷ Limit x ∷ ls) rest.are;
      is = rest.is;
    }
sized_read n b (Body entry ∷ text_lines) last some few low r e ended = unlimited n b (Body entry ∷ text_lines) last some few low r (ap (λ (p : Reading). follow p (Body entry ∷ text_lines)) (sized_is InBody n b) ∙ e) ended
sized_read n b (End ∷ text_lines) last some few low r e ended = unlimited n b (End ∷ text_lines) last some few low r (ap (λ (p : Reading). follow p (End ∷ text_lines)) (sized_is InBody n b) ∙ e) ended
sized_read n b [] last some few low r e ended = absurd (let at : Sized ≡ Ended = ap (λ (p : Reading). p.stage) (some_is _ _ e) ∙ ended in cc)
sized_read n b (Title ∷ text_lines) last some few low r e ended = absurd cc
sized_read n b (Callers m ∷ text_lines) last some few low r e ended = absurd cc
sized_read n b (Blocks m ∷ text_lines) last some few low r e ended = absurd cc

counted_read : (n : ℕ) (text_lines : List PlanLine) (last : Reading) → 1 ≤ n → n ≤ 16 → AllByRecursion IsLineInRange text_lines → follow (counted Counted n 0 4294967294) text_lines ≡ Some last → last.stage ≡ Ended → Said (Title ∷ Callers n ∷ text_lines) last
counted_read n (Blocks b ∷ text_lines) last some few r e ended = sized_read n b text_lines last some few r.0 r.1 e ended
counted_read n [] last some few r e ended = absurd (let at : Counted ≡ Ended = ap (λ (p : Reading). p.stage) (some_is _ _ e) ∙ ended in cc)
counted_read n (Title ∷ text_lines) last some few r e ended = absurd cc
counted_read n (Callers m ∷ text_lines) last some few r e ended = absurd cc
counted_read n (Limit x ∷ text_lines) last some few r e ended = absurd cc
counted_read n (Body entry ∷ text_lines) last some few r e ended = absurd cc
counted_read n (End ∷ text_lines) last some few r e ended = absurd cc

named_read : (text_lines : List PlanLine) (last : Reading) → AllByRecursion IsLineInRange text_lines → follow (record nothing_read { stage = Named }) text_lines ≡ Some last → last.stage ≡ Ended → Said (Title ∷ text_lines) last
named_read (Callers n ∷ text_lines) last r e ended =
    let step = bind_some (after_line (record nothing_read { stage = Named }) (Callers n)) (λ q. follow q text_lines) last e in
    let k = not_zero n (Some (counted Counted n 0 4294967294)) step.0 step.1 in
    counted_read n text_lines last k.0 r.0 r.1 (ap (λ (p : Reading). follow p text_lines) (some_is _ _ k.1) ∙ step.2) ended
named_read [] last r e ended = absurd (let at : Named ≡ Ended = ap (λ (p : Reading). p.stage) (some_is _ _ e) ∙ ended in cc)
named_read (Title ∷ text_lines) last r e ended = absurd cc
named_read (Blocks m ∷ text_lines) last r e ended = absurd cc
named_read (Limit x ∷ text_lines) last r e ended = absurd cc
named_read (Body entry ∷ text_lines) last r e ended = absurd cc
named_read (End ∷ text_lines) last r e ended = absurd cc

pub said_of : (text_lines : List PlanLine) (last : Reading) → AllByRecursion IsLineInRange text_lines → follow nothing_read text_lines ≡ Some last → last.stage ≡ Ended → Said text_lines last
said_of (Title ∷ text_lines) last r e ended = named_read text_lines last r.1 e ended
said_of [] last r e ended = absurd (let at : Start ≡ Ended = ap (λ (p : Reading). p.stage) (some_is _ _ e) ∙ ended in cc)
said_of (Callers m ∷ text_lines) last r e ended = absurd cc
said_of (Blocks m ∷ text_lines) last r e ended = absurd cc
said_of (Limit x ∷ text_lines) last r e ended = absurd cc
said_of (Body entry ∷ text_lines) last r e ended = absurd cc
said_of (End ∷ text_lines) last r e ended = absurd cc

-- ---- a heading, entries and the end are read

body_follows : (h : Heading) (es more : List BodyLine) → AreEntries h (es ++ more) → follow (after InBody h es) (map Body more ++ End ∷ []) ≡ Some (after Ended h (es ++ more))
body_follows h es [] a = ap (λ (l : List BodyLine). Some (after Ended h l)) (sym (append-nil es))
body_follows h es (e ∷ more) a =
    let all = sym (append_assoc es (e ∷ []) more) in
    let fit = subst (AreEntries h) all a in
    ap (λ (o : Option Reading). o >>= λ q. follow q (map Body more ++ End ∷ [])) (enters InBody h es e (adds h es e (fewer h (es ++ e ∷ []) more fit)))
    ∙ body_follows h (es ++ e ∷ []) more fit ∙ ap (λ (l : List BodyLine). Some (after Ended h l)) (sym all)

-- the first entry is taken with or without a limit before it
sized_body : (h : Heading) (es : List BodyLine) → follow (after Sized h []) (map Body es ++ End ∷ []) ≡ follow (after InBody h []) (map Body es ++ End ∷ [])
sized_body h [] = refl
sized_body h (e ∷ es) = refl

zero_no : (n : ℕ) → 1 ≤ n → eqb n 0 ≡ false
zero_no n h = elim (eqb_tells n 0) [ inl p ↦ absurd (let z = p.1 in omega arith) | inr p ↦ p.0 ]

counts : (n b : ℕ) (text_lines : List PlanLine) → 1 ≤ n → follow nothing_read (Title ∷ Callers n ∷ Blocks b ∷ text_lines) ≡ follow (counted Sized n b 4294967294) text_lines
counts n b text_lines some = let z = zero_no n some in rw z refl

limits : (n b x : ℕ) (text_lines : List PlanLine) → 1 ≤ x → follow (counted Sized n b 4294967294) (Limit x ∷ text_lines) ≡ follow (counted InBody n b x) text_lines
limits n b x text_lines some = let z = zero_no x some in rw z refl

follows_by : (n b : ℕ) (limit : Option ℕ) (es : List BodyLine) → IsHeading (with_limit n b limit) → AreEntries (with_limit n b limit) es → follow nothing_read (plan_lines (with_limit n b limit) es) ≡ Some (after Ended (with_limit n b limit) es)
follows_by n b None es k a =
    counts n b (map Body es ++ End ∷ []) k.some_callers
    ∙ ap (λ (p : Reading). follow p (map Body es ++ End ∷ [])) (sym (sized_is Sized n b))
    ∙ sized_body (sized n b) es ∙ body_follows (sized n b) [] es a
follows_by n b (Some x) es k a =
    counts n b (Limit x ∷ (map Body es ++ End ∷ [])) k.some_callers
    ∙ limits n b x (map Body es ++ End ∷ []) k.limit_range.0
    ∙ ap (λ (p : Reading). follow p (map Body es ++ End ∷ [])) (sym (limited_is InBody n b x))
    ∙ body_follows (limited n b x) [] es a

pub follows : (h : Heading) (es : List BodyLine) → IsHeading h → AreEntries h es → follow nothing_read (plan_lines h es) ≡ Some (after Ended h es)
follows h es k a = follows_by h.callers h.blocks h.limit es k a

-- ---- and their numbers are in the ranges of lines

cells_small : (n b a : ℕ) → n ≤ 16 → b ≤ 512 → a < durable_cells n (data_cells n b) → a ≤ 4294967295
cells_small n b a few low lt =
    let rows : 2 * log_room n (data_cells n b) + 1 ≤ 3775 = omega (arith, room_upto n (data_cells n b), few_behind b low) in
    omega (arith, mul-le-mul_left n rows, few_behind b low)

entries_range : (h : Heading) (es : List BodyLine) → IsHeading h → AllByRecursion (IsEntryInRange h) es → sum_by turns_of (filter_map item_of es) ≤ 10000000 → AllByRecursion IsLineInRange (map Body es ++ End ∷ [])
entries_range h [] k r few = (tt, tt)
entries_range h (Script c s ∷ es) k r few = ((omega (arith, k.few_callers, r.0.0), r.0.1), entries_range h es k r.1 few)
entries_range h (Stop c x ∷ es) k r few = ((omega (arith, k.few_callers, r.0.0), r.0.1), entries_range h es k r.1 few)
entries_range h (Turns c x ∷ es) k r few = let sum = sum_by-cons turns_of (TurnsItem c x) (filter_map item_of es) in ((omega (arith, k.few_callers, r.0.0), omega (arith, few, sum)), entries_range h es k r.1 (omega (arith, few, sum)))
entries_range h (Evict a ∷ es) k r few = (cells_small h.callers h.blocks a k.few_callers k.few_blocks r.0, entries_range h es k r.1 few)

limit_range : (o : Option ℕ) → IfSome o (λ x. (1 ≤ x) × (x ≤ 4294967294)) → AllByRecursion IsLineInRange (limit_lines o)
limit_range None h = tt
limit_range (Some x) h = (h.1, tt)

pub lines_range : (h : Heading) (es : List BodyLine) → IsHeading h → AreEntries h es → AllByRecursion IsLineInRange (plan_lines h es)
lines_range h es k a = (tt, (k.few_callers, (k.few_blocks, all-both IsLineInRange (limit_lines h.limit) (map Body es ++ End ∷ []) (limit_range h.limit k.limit_range) (entries_range h es k a.in_range a.few_turns))))

-- ---- a text that is read is spelled so, and one that is spelled is read so

abbrev pub ReadsPlan : List ℕ → Type 0
ReadsPlan text = Reads plan_language plan_reader nothing_read IsEnded text

pub spelled : (text : List ℕ) (r : ReadsPlan text) → SpellsPlan text (plan_read r.last)
spelled text r =
    let s = said_of r.said r.last r.range r.leads r.ended in
    record {
      heading = s.heading;
      entries = s.entries;
      heading_fits = s.heading_fits;
      entries_fit = s.entries_fit;
      each = r.each ∙ ap (map line_words) s.are;
      is = ap plan_read (sym s.is);
    }

pub read : (text : List ℕ) (plan : Plan) → SpellsPlan text plan → (r : ReadsPlan text) × (plan ≡ plan_read r.last)
read text plan s =
    let h = s.heading in
    let es = s.entries in (
      record {
        said = plan_lines h es;
        range = lines_range h es s.heading_fits s.entries_fit;
        each = s.each;
        last = after Ended h es;
        leads = follows h es s.heading_fits s.entries_fit;
        ended = refl;
      },
      s.is,
    )
