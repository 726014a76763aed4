-- What the code's replay and lines make, and what the text says of it.
use Rattle.std.proofs.Common.{◌≡◌, ℕ, zero, suc, ◌+◌, ◌<◌, ◌≤◌, ◌⊎◌, inl, inr, Bool, true, false, not, Option, Some, None, List, [], ◌∷◌, length, get_or, take, map, refl, sym, ap, subst, ◌∙◌, arith}
use Rattle.std.specs.Prelude.{MatchOption}
use Rattle.std.specs.Global.{Global}
use Rattle.std.specs.declared.vec.Vec.{Vec}
use Rattle.std.specs.Str.{bytes_eq}
use Rattle.std.proofs.lemmas.List.{length-take}
use Rattle.std.proofs.lemmas.Slice.Eq.{bytes_eq-Decides}
use Rattle.of_plan.specs.Plan.{Plan, IsPlan}
use Rattle.of_plan.specs.Lines.{text_lines}
use Rattle.of_plan.specs.Report.{Line as PlainLine, Report, Start, empty_start}
use Rattle.of_plan.specs.Legal.{IsLegal}
use Rattle.of_report.specs.Report.{report_value}
use Rattle.of_report.specs.ReportText.{report_text}
use Rattle.of_check.specs.declared.claims.CallClaim.{CallClaim}
use Rattle.of_check.specs.declared.claims.EndClaim.{EndClaim}
use Rattle.of_check.specs.declared.replay.Replay.{Replay as RustReplay}
use Rattle.of_check.specs.declared.cause.Cause.{Cause}
use Rattle.of_check.specs.declared.cause.Cause.TheVariants.{Entry, Caller, Line}
use Rattle.of_check.specs.declared.judging.ReplayEnd.{ReplayEnd}
use Rattle.of_check.specs.declared.cause.Judgement.{Judgement}
use Rattle.of_check.specs.declared.cause.Judgement.TheVariants.{Legal, Illegal}
use Rattle.of_check.specs.declared.cause.EndRule.{EndRule}
use Rattle.of_check.specs.declared.cause.EndRule.TheVariants.{Missing, Answered, Ending, Steps}
use Rattle.of_check.specs.declared.cause.EntryRule.{EntryRule}
use Rattle.of_check.specs.declared.cause.EntryRule.TheVariants.{NoCaller, NoScript, Turn, Place, Writes}
use Rattle.of_check.specs.Claims.{call_claim, end_claim, call_claims_of_text, end_claims_of_text}
use Rattle.of_check.specs.Replay.{Replay, replay_at_start, after_claimed_call, course_end, MayFollow, AllFollow, HasRunCalls, report_so_far}
use Rattle.of_check.specs.Endings.{IsEnding, AreEndings, claimed_lines}
use Rattle.of_check.specs.Verdict.{greatest_seq, IsTextOf, IsLegalText, IsLegalFrom}
use Rattle.of_check.specs.Causes.{BreaksEntry, BreaksEnd, BreaksClaim, BreaksFirst, BreaksAt, IsReplayEnd, DiffersAt, SameAbove, DifferFirst, ComesFirst, Same, Differs, IsCauseFrom, IsJudgement, IsReportJudgement, made_report, made_text}
use Rattle.of_check.proofs.Following.{counts_long}
use Rattle.of_check.proofs.Reports.{KnowsEach, IsRemade, legal_report, remade_own}
use Rattle.of_check.proofs.Bounds.{seq_few, small_calls, small_ends}
use Rattle.of_check.proofs.Readings.{report_calls, report_ends}

module _ (p : Plan) (s : Start) (knows : KnowsEach p s) (calls : List CallClaim) (replay : RustReplay) (ran : HasRunCalls p s calls replay) where
  pub counts_wide : length replay.counts.items ≡ p.callers
  counts_wide = ap (λ (c : Replay). length c.counts) ran.course ∙ counts_long p (replay_at_start s) calls ∙ knows

  -- the report of what has run is the one that its claims make
  pub made_is : (ends : List EndClaim) → report_so_far p s.finished replay ends ≡ made_report p s calls ends
  made_is ends = λ i. record {
    entries = ran.entries i;
    callers = claimed_lines p s.finished (ran.course i).counts ends;
    seq = (ran.course i).last.seq;
    store = (ran.course i).store;
  }

-- ---- a cause excludes a legal report

not_next : (rule : EntryRule) (p : Plan) (c : Replay) (q : CallClaim) → BreaksEntry rule p c q → MayFollow p c q → ⊥
not_next NoCaller p c q breaks follows = breaks follows.caller
not_next NoScript p c q breaks follows = breaks.1 follows.script
not_next Turn p c q breaks follows = breaks.2 follows.turn
not_next Place p c q breaks follows = breaks.3 follows.place
not_next Writes p c q breaks follows = breaks.5 (follows.reads breaks.4)

follows_at : (p : Plan) (c : Replay) (qs : List CallClaim) (k : ℕ) (d : CallClaim) → k < length qs → AllFollow p c qs → MayFollow p (course_end p c (take k qs)) (get_or qs k d)
follows_at p c [] k d lt all = absurd (omega (arith, lt))
follows_at p c (q ∷ qs) zero d lt all = all.0
follows_at p c (q ∷ qs) (suc k) d lt all = follows_at p (after_claimed_call p c q) qs k d (omega (arith, lt)) all.1

pub none_follow : (p : Plan) (s : Start) (calls : List CallClaim) (index : ℕ) (rule : EntryRule) → BreaksAt p s calls index rule → AllFollow p (replay_at_start s) calls → ⊥
none_follow p s calls index rule breaks all = not_next rule p _ _ breaks.breaks (follows_at p (replay_at_start s) calls index _ breaks.there all)

not_ending : (rule : EndRule) (p : Plan) (scripts seq : ℕ) (l : PlainLine) → BreaksEnd rule p scripts seq l → IsEnding p scripts seq l → ⊥
not_ending Missing p scripts seq l breaks is = breaks
not_ending Answered p scripts seq l breaks is = breaks is.open_call
not_ending Ending p scripts seq l breaks is = breaks.1 is.ended
not_ending Steps p scripts seq l breaks is = breaks.2 is.within

not_claimed : (rule : EndRule) (p : Plan) (done : List ℕ) (seq : ℕ) (counts : List ℕ) (ends : List EndClaim) (c : ℕ) → c < p.callers → BreaksClaim rule p done seq counts ends c → AreEndings p done seq counts ends → ⊥
not_claimed Missing p done seq counts ends c lt breaks are = omega (arith, lt, breaks, are.each_caller)
not_claimed Answered p done seq counts ends c lt breaks are = not_ending Answered p _ seq _ breaks (are.each c lt)
not_claimed Ending p done seq counts ends c lt breaks are = not_ending Ending p _ seq _ breaks (are.each c lt)
not_claimed Steps p done seq counts ends c lt breaks are = not_ending Steps p _ seq _ breaks (are.each c lt)

module _ (p : Plan) (plan : IsPlan p) (s : Start) (knows : KnowsEach p s) (text : List ℕ) (legal : IsLegalFrom p s text) where
  -- the report of a legal text is the one that its claims make
  again : IsRemade p s (call_claims_of_text text) (end_claims_of_text text) legal.report
  again =
      let calls : map call_claim legal.report.entries ≡ call_claims_of_text text = sym (ap call_claims_of_text legal.of_it.is ∙ report_calls legal.report (small_calls p plan s knows legal.report legal.of_it.legal legal.of_it.in_range)) in
      let ends : map end_claim legal.report.callers ≡ end_claims_of_text text = sym (ap end_claims_of_text legal.of_it.is ∙ report_ends legal.report (small_calls p plan s knows legal.report legal.of_it.legal legal.of_it.in_range) (small_ends p plan s knows legal.report legal.of_it.legal legal.of_it.in_range)) in
      subst (λ (qs : List CallClaim). IsRemade p s qs (end_claims_of_text text) legal.report) calls
      (subst (λ (es : List EndClaim). IsRemade p s (map call_claim legal.report.entries) es legal.report) ends (remade_own p s knows legal.report legal.of_it.legal))

  -- so it has that report's text
  made_has : (count : ℕ) → take count (call_claims_of_text text) ≡ call_claims_of_text text → made_text p s count text ≡ text
  made_has count all =
      ap (λ (qs : List CallClaim). report_text (made_report p s qs (end_claims_of_text text))) all ∙ ap report_text again.same ∙ sym legal.of_it.is

  not_at : (above : ℕ) (wanted : List ℕ) (differs : DiffersAt p s text wanted above) → (take differs.count (call_claims_of_text text) ≡ call_claims_of_text text) ⊎ ((above ≤ differs.count) × (AllFollow p (replay_at_start s) (call_claims_of_text text) → ⊥)) → ⊥
  not_at above wanted differs (inl all) = differs.line.differ (ap (λ (t : List ℕ). take (above + 1) (text_lines t)) (sym (differs.text_of ∙ made_has differs.count all)))
  not_at above wanted differs (inr none) = none.1 again.follow

  pub excluded : (cause : Cause) → IsCauseFrom p s text cause → ⊥
  excluded (Entry index rule) h = none_follow p s (call_claims_of_text text) index rule h.0 again.follow
  excluded (Caller entries caller rule) h = not_claimed rule p s.finished _ _ (end_claims_of_text text) caller h.1.first.there h.1.first.breaks again.endings
  excluded (Line above wanted) h = not_at above wanted.items h h.rest

-- ---- judging

min_take : (k : ℕ) (calls : List CallClaim) → k ≤ length calls → take k calls ≡ calls → k ≡ length calls
min_take k calls few all = omega (arith, few, length-take k calls, ap length all)

-- a text's entries have run up to one that breaks a rule, and this is the text of their report
pub record IsRun (p : Plan) (s : Start) (text : List ℕ) (e : ReplayEnd) (report : Report) (wanted : List ℕ) : Type 0 where
  pub ends : IsReplayEnd p s (call_claims_of_text text) e
  pub made : report ≡ report_so_far p s.finished e.replay (end_claims_of_text text)
  pub printed : wanted ≡ report_text report

pub run_of : (p : Plan) (s : Start) (text : List ℕ) (e : ReplayEnd) (calls : List CallClaim) (done : List ℕ) (ends : List EndClaim) (report : Report) (wanted : List ℕ) → calls ≡ call_claims_of_text text → IsReplayEnd p s calls e → done ≡ s.finished → ends ≡ end_claims_of_text text
    → report ≡ report_so_far p done e.replay ends → wanted ≡ report_text report → IsRun p s text e report wanted
run_of p s text e calls done ends report wanted a ended b c made printed = record {
  ends = subst (λ (qs : List CallClaim). IsReplayEnd p s qs e) a ended;
  made = made ∙ (λ i. report_so_far p (b i) e.replay (c i));
  printed = printed;
}

module _ (p : Plan) (plan : IsPlan p) (s : Start) (knows : KnowsEach p s) (text : List ℕ) (e : ReplayEnd) (report : Report) (wanted : Vec ℕ Global) (run : IsRun p s text e report wanted.items) where
  ends : IsReplayEnd p s (call_claims_of_text text) e
  ends = run.ends

  printed : wanted.items ≡ made_text p s e.count text
  printed = run.printed ∙ ap report_text (run.made ∙ made_is p s knows (take e.count (call_claims_of_text text)) e.replay ends.ran (end_claims_of_text text))

  abbrev calls : List CallClaim
  calls = call_claims_of_text text

  -- and then there is no legal report
  illegal : (cause : Cause) → IsCauseFrom p s text cause → IsJudgement p s text (Illegal cause)
  illegal cause is = (is, λ legal. excluded p plan s knows text legal cause is)

  differs_at : (above : ℕ) → DifferFirst text wanted.items above → (take e.count calls ≡ calls) ⊎ ((above ≤ e.count) × (AllFollow p (replay_at_start s) calls → ⊥)) → IsCauseFrom p s text (Line above wanted)
  differs_at above first rest = record { count = e.count; follow = ends.ran.follow; text_of = printed; line = first; rest = rest }

  same_made : (above : ℕ) → SameAbove text wanted.items above → SameAbove text (made_text p s e.count text) above
  same_made above same = subst (λ (t : List ℕ). SameAbove text t above) printed same

  abbrev Rest : Option EntryRule → Type 0
  Rest broken = MatchOption broken (take e.count calls ≡ calls) (λ rule. BreaksAt p s calls e.count rule)

  entry_first : (rule : EntryRule) → BreaksAt p s calls e.count rule → (found : Cause) → ComesFirst text wanted (e.count + 1) (Entry e.count rule) found → IsCauseFrom p s text found
  entry_first rule breaks found (Same same is) = subst (IsCauseFrom p s text) (sym is) (breaks, same_made (e.count + 1) same)
  entry_first rule breaks found (Differs line lt first is) = subst (IsCauseFrom p s text) (sym is) (differs_at line first (inr (omega (arith, lt), none_follow p s calls e.count rule breaks)))

  pub judged_entry : (rule : EntryRule) → e.broken ≡ Some rule → (found : Cause) → ComesFirst text wanted (e.count + 1) (Entry e.count rule) found → IsJudgement p s text (Illegal found)
  judged_entry rule is found first = illegal found (entry_first rule (subst Rest is ends.rest) found first)

  module _ (none : e.broken ≡ None) where
    all : take e.count calls ≡ calls
    all = subst Rest none ends.rest

    ran : HasRunCalls p s calls e.replay
    ran = subst (λ (qs : List CallClaim). HasRunCalls p s qs e.replay) all ends.ran

    caller_first : (caller : ℕ) (rule : EndRule) → BreaksFirst p s.finished e.replay.last.seq e.replay.counts.items (end_claims_of_text text) caller rule → (found : Cause) → ComesFirst text wanted (e.count + 1 + caller) (Caller e.count caller rule) found → IsCauseFrom p s text found
    caller_first caller rule breaks found (Same same is) =
        subst (IsCauseFrom p s text) (sym is) (
          min_take e.count calls ends.few all,
          record { all = ran.follow; first = subst (λ (c : Replay). BreaksFirst p s.finished c.last.seq c.counts (end_claims_of_text text) caller rule) ran.course breaks },
          same_made (e.count + 1 + caller) same,
        )
    caller_first caller rule breaks found (Differs line lt first is) = subst (IsCauseFrom p s text) (sym is) (differs_at line first (inl all))

    pub judged_caller : (caller : ℕ) (rule : EndRule) → BreaksFirst p s.finished e.replay.last.seq e.replay.counts.items (end_claims_of_text text) caller rule → (found : Cause) → ComesFirst text wanted (e.count + 1 + caller) (Caller e.count caller rule) found → IsJudgement p s text (Illegal found)
    judged_caller caller rule breaks found first = illegal found (caller_first caller rule breaks found first)

    pub judged_line : (above : ℕ) → DifferFirst text wanted.items above → IsJudgement p s text (Illegal (Line above wanted))
    judged_line above first = illegal (Line above wanted) (differs_at above first (inl all))

    pub judged_legal : AreEndings p s.finished e.replay.last.seq e.replay.counts.items (end_claims_of_text text) → text ≡ wanted.items → report.seq ≤ greatest_seq → IsTextOf p s text report
    judged_legal are same range =
        let made : made_report p s calls (end_claims_of_text text) ≡ report = sym (run.made ∙ made_is p s knows calls e.replay ran (end_claims_of_text text)) in
        let endings = subst (λ (c : Replay). AreEndings p s.finished c.last.seq c.counts (end_claims_of_text text)) ran.course are in
        record {
          legal = subst (IsLegal p s) made (legal_report p s knows calls (end_claims_of_text text) ran.follow endings);
          in_range = range;
          is = same ∙ run.printed;
        }

-- ---- the empty start

-- from the empty start each legal report's sequence is in range
pub from_empty : (p : Plan) → IsPlan p → (text : List ℕ) → IsLegalText p text → IsLegalFrom p (empty_start p) text
from_empty p plan text legal = record {
  report = legal.report;
  of_it = record { legal = legal.legal; in_range = omega (arith, seq_few p plan legal.report legal.legal); is = legal.is };
}

-- a judgement from an empty start
pub judged_empty : (p : Plan) → IsPlan p → (text : List ℕ) (j : Judgement) → IsJudgement p (empty_start p) text j → IsReportJudgement p text j
judged_empty p plan text (Legal report) h = record { report = report_value report; legal = h.legal; is = h.is }
judged_empty p plan text (Illegal cause) h = (h.0, λ legal. h.1 (from_empty p plan text legal))

-- lists that are equal
pub ends_moved : (p : Plan) (seq : ℕ) (done done' counts counts' : List ℕ) (claims claims' : List EndClaim) → done ≡ done' → counts ≡ counts' → claims ≡ claims' → AreEndings p done seq counts claims → AreEndings p done' seq counts' claims'
ends_moved p seq done done' counts counts' claims claims' a b c are =
    subst (λ (d : List ℕ). AreEndings p d seq counts' claims') a (subst (λ (n : List ℕ). AreEndings p done seq n claims') b (subst (AreEndings p done seq counts) c are))

pub first_moved : (p : Plan) (seq : ℕ) (done done' counts counts' : List ℕ) (claims claims' : List EndClaim) (caller : ℕ) (rule : EndRule) → done ≡ done' → counts ≡ counts' → claims ≡ claims' → BreaksFirst p done seq counts claims caller rule → BreaksFirst p done' seq counts' claims' caller rule
first_moved p seq done done' counts counts' claims claims' caller rule a b c first =
    subst (λ (d : List ℕ). BreaksFirst p d seq counts' claims' caller rule) a
    (subst (λ (n : List ℕ). BreaksFirst p done seq n claims' caller rule) b (subst (λ (es : List EndClaim). BreaksFirst p done seq counts es caller rule) c first))

-- the answer of a comparison
pub differs : (a b : List ℕ) (r : Bool) → r ≡ not (bytes_eq a b) → r ≡ true → a ≡ b → ⊥
differs a b r is unequal same = absurd (let e = sym unequal ∙ is ∙ ap not ((bytes_eq-Decides a b).1 same) in cc)

pub same_bytes : (a b : List ℕ) (r : Bool) → r ≡ not (bytes_eq a b) → r ≡ false → a ≡ b
same_bytes a b r is equal = (bytes_eq-Decides a b).0 (turned (bytes_eq a b) (sym is ∙ equal))
  where
    turned : (t : Bool) → not t ≡ false → t ≡ true
    turned true e = refl
    turned false e = absurd cc
