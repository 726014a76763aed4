-- What a legal life has, and what excludes one.
use Rattle.std.proofs.Common.{◌≡◌, ◌≢◌, ℕ, ◌^◌, ◌<◌, ◌≤◌, List, length, get_or, sym, ap, subst, ◌∙◌, arith}
use Rattle.std.proofs.lemmas.List.FromFn.{length-map-range_with_len}
use Rattle.of_cell.specs.Words.{seq_of}
use Rattle.of_plan.specs.Plan.{Plan, IsPlan}
use Rattle.of_plan.specs.Report.{Report, Start}
use Rattle.of_report.specs.ReportText.{TextTellsReport}
use Rattle.of_report.specs.Image.{Image, start_of_image, image_ticket}
use Rattle.of_lives.specs.Images.{PlanFitsImage}
use Rattle.of_image.specs.declared.version.Version.TheVariants.{Two}
use Rattle.of_image.specs.Grammar.{plan_grammar}
use Rattle.of_image.specs.ImageText.{image_text}
use Rattle.of_image.specs.PrintedAgain.{PrintsAgain}
use Rattle.of_image.specs.Parsed.{UnlawfulHaveNone}
use Rattle.of_image.proofs.ImageFacts.{one_image}
use Rattle.of_image.proofs.ImageTexts.{one_row}
use Rattle.of_check.specs.Verdict.{IsTextOf, IsLegalFrom}
use Rattle.of_check.specs.declared.cause.Cause.{Cause}
use Rattle.of_check.specs.Causes.{IsCauseFrom}
use Rattle.of_check.specs.declared.ends.LeftRule.{LeftRule}
use Rattle.of_check.specs.declared.ends.LeftRule.TheVariants.{Callers, Blocks, Sequence, Ticket, Reply, Store}
use Rattle.of_check.specs.Ends.{EndsAt, BreaksLeft}
use Rattle.of_tool.specs.declared.legal_life.LeftFault.{LeftFault}
use Rattle.of_tool.specs.declared.legal_life.LeftFault.TheVariants.{Bad, Unlawful, NotPrinted}
use Rattle.of_tool.specs.Lives.{IsPrinted, IsLeft, IsLeftFault, IsLegalLife, EndsElsewhere}

-- the sequence of a word of 64 bits has 32
seq_few : (w : ℕ) → w < 2 ^ 64 → seq_of w ≤ 4294967295
unfolding seq_of
seq_few w small = omega (arith, small)

-- a broken rule is one that an end keeps
pub broken : (p : Plan) (s : Start) (r : Report) (i : Image) (rule : LeftRule) → BreaksLeft p s r i rule → EndsAt p s r i → ⊥
broken p s r i Callers b e = b e.callers
broken p s r i Blocks b e = b.1 e.blocks
broken p s r i Sequence b e = b.2 e.seq
broken p s r i (Ticket c) b e = b.1.breaks (e.last_calls c b.1.there).ticket
broken p s r i (Reply c) b e = b.1.breaks.1 (e.last_calls c b.1.there).reply
broken p s r i Store b e = b.2 e.store

-- a text that is printed again otherwise is not the printed one
pub otherwise : (text again : List ℕ) → PrintsAgain text again → again ≢ text → IsPrinted text → ⊥
otherwise text again prints other printed =
    other (prints.is ∙ ap (image_text Two) (one_row (plan_grammar Two) text prints.row printed.row prints.spelled printed.spelled) ∙ sym printed.is)

module _ (i : Image) (p : Plan) (told left : List ℕ) (life : IsLegalLife i p told left) where
  in_range : life.report.seq ≤ 4294967295
  in_range =
      let raw = life.left_is.reads.raw in
      omega (arith, life.ends.seq, life.left_is.reads.restored.seq, seq_few (get_or raw.words 0 0) (life.left_is.reads.spelled.row.words 0))

  told_is : IsTextOf p (start_of_image i) told life.report
  told_is = record { legal = life.legal; in_range = in_range; is = life.text_is }

  pub legal_from : IsLegalFrom p (start_of_image i) told
  legal_from = record { report = life.report; of_it = told_is }

  -- its image's text has no fault
  pub no_fault : UnlawfulHaveNone → (fault : LeftFault) → IsLeftFault left fault → ⊥
  no_fault none (Bad line) h = h.none (life.left_is.reads.raw, life.left_is.reads.spelled)
  no_fault none (Unlawful cell) h = none Two left cell life.next h life.left_is.reads
  no_fault none NotPrinted h = h.2 life.left_is.printed

  -- and its report ends in it
  pub ends_not_elsewhere : TextTellsReport → IsPlan p → (start_of_image i).seq ≤ p.limit
      → (r : Report) → IsTextOf p (start_of_image i) told r → (next : Image) → IsLeft left next → (rule : LeftRule) → BreaksLeft p (start_of_image i) r next rule → ⊥
  ends_not_elsewhere one plan low r is next reads rule b =
      let report : life.report ≡ r = one p (start_of_image i) life.report r plan low life.legal is.legal (sym life.text_is ∙ is.is) in
      let image : life.next ≡ next = one_image (plan_grammar Two) left life.next next life.left_is.reads reads.reads in
      broken p (start_of_image i) r next rule b (subst (λ (x : Report). EndsAt p (start_of_image i) x next) report (subst (λ (y : Image). EndsAt p (start_of_image i) life.report y) image life.ends))

-- as many scripts are done at the start as the plan has callers
pub done_long : (i : Image) (p : Plan) → PlanFitsImage i p → length (start_of_image i).finished ≡ p.callers
done_long i p fits = length-map-range_with_len (image_ticket i) 0 i.row.callers ∙ sym fits.callers

-- what is found from a start that is the image's
module _ (i : Image) (p : Plan) (told left : List ℕ) (s : Start) (start : s ≡ start_of_image i) where
  from_start : (r : Report) → IsTextOf p s told r → IsTextOf p (start_of_image i) told r
  from_start r is = subst (λ (x : Start). IsTextOf p x told r) start is

  -- no report, so no life
  pub no_report : (IsLegalFrom p s told → ⊥) → IsLegalLife i p told left → ⊥
  no_report none life = none (subst (λ (x : Start). IsLegalFrom p x told) (sym start) (legal_from i p told left life))

  -- why there is no report
  pub told_cause : (cause : Cause) → IsCauseFrom p s told cause → IsCauseFrom p (start_of_image i) told cause
  told_cause cause h = subst (λ (x : Start). IsCauseFrom p x told cause) start h

  -- a report
  pub told_report : (r : Report) → IsTextOf p s told r → IsLegalFrom p (start_of_image i) told
  told_report r is = record { report = r; of_it = from_start r is }

  -- a report that ends in the image
  pub is_life : (r : Report) → IsTextOf p s told r → (next : Image) → IsLeft left next → EndsAt p (start_of_image i) r next → IsLegalLife i p told left
  is_life r is next left_is ends =
      let of_it = from_start r is in
      record { report = r; legal = of_it.legal; text_is = of_it.is; next = next; left_is = left_is; ends = ends }

  -- and one that doesn't
  pub is_elsewhere : (r : Report) → IsTextOf p s told r → (next : Image) → IsLeft left next → (rule : LeftRule) → BreaksLeft p (start_of_image i) r next rule
      → EndsElsewhere i p told left (λ report next. BreaksLeft p (start_of_image i) report next rule)
  is_elsewhere r is next left_is rule breaks = record { report = r; of_it = from_start r is; next = next; left_is = left_is; breaks = breaks }

  pub no_life : TextTellsReport → IsPlan p → PlanFitsImage i p → (r : Report) → IsTextOf p s told r → (next : Image) → IsLeft left next → (rule : LeftRule) → BreaksLeft p (start_of_image i) r next rule → IsLegalLife i p told left → ⊥
  no_life one plan fits r is next left_is rule breaks life =
      ends_not_elsewhere i p told left life one plan fits.limit r (from_start r is) next left_is rule breaks
