-- How far a replay of claims has come, call by call.
use Rattle.std.proofs.Common.{◌≡◌, List, [], ◌∷◌, ◌++◌, refl, sym, ap, subst, ◌∙◌}
use Rattle.of_plan.specs.Plan.{Plan}
use Rattle.of_plan.specs.Report.{Entry, Start}
use Rattle.of_check.specs.declared.claims.CallClaim.{CallClaim}
use Rattle.of_check.specs.declared.replay.Replay.{Replay as RustReplay}
use Rattle.of_check.specs.Replay.{Replay, replay_at_start, entry_for, entries_from, course_end, after_claimed_call, MayFollow, AllFollow, HasRunCall, HasRunCalls}

-- one call more

follow_more : (p : Plan) (c : Replay) (qs : List CallClaim) (q : CallClaim) → AllFollow p c qs → MayFollow p (course_end p c qs) q → AllFollow p c (qs ++ q ∷ [])
follow_more p c [] q all next = (next, tt)
follow_more p c (r ∷ qs) q all next = (all.0, follow_more p (after_claimed_call p c r) qs q all.1 next)

end_more : (p : Plan) (c : Replay) (qs : List CallClaim) (q : CallClaim) → course_end p c (qs ++ q ∷ []) ≡ after_claimed_call p (course_end p c qs) q
end_more p c [] q = refl
end_more p c (r ∷ qs) q = end_more p (after_claimed_call p c r) qs q

entries_more : (p : Plan) (c : Replay) (qs : List CallClaim) (q : CallClaim) → entries_from p c (qs ++ q ∷ []) ≡ entries_from p c qs ++ entry_for p (course_end p c qs) q ∷ []
entries_more p c [] q = refl
entries_more p c (r ∷ qs) q = ap (λ (es : List Entry). entry_for p c r ∷ es) (entries_more p (after_claimed_call p c r) qs q)

pub took_more : (p : Plan) (s : Start) (qs : List CallClaim) (q : CallClaim) (r now : RustReplay) → HasRunCalls p s qs r → HasRunCall p r now q → HasRunCalls p s (qs ++ q ∷ []) now
took_more p s qs q r now all took = record {
  follow = follow_more p (replay_at_start s) qs q all.follow (subst (λ (c : Replay). MayFollow p c q) all.course took.follows);
  course = took.course ∙ ap (λ (c : Replay). after_claimed_call p c q) all.course ∙ sym (end_more p (replay_at_start s) qs q);
  entries = took.entries ∙ (λ i. all.entries i ++ entry_for p (all.course i) q ∷ []) ∙ sym (entries_more p (replay_at_start s) qs q);
}
