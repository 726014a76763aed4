-- The worked second life is legal from where the first one leaves, with whatever sequences it goes on.
use Rattle.std.proofs.Common.{◌≡◌, ℕ, zero, suc, ◌+◌, ◌<◌, ◌≤◌, inl, inr, true, [], ◌∷◌, length, map, Some, refl, ap, arith}
use Rattle.std.specs.Prelude.{IsTrue, All}
use Rattle.std.specs.List.{range_with_len}
use Rattle.std.proofs.lemmas.List.Elements.{All-nil, All-cons, All-from_recursion}
use Rattle.of_script.specs.declared.instr.Instr.TheVariants.{Load}
use Rattle.of_script.specs.Language.{reads_only}
use Rattle.of_plan.specs.Report.{Entry, Report, Start, entries_of, finished_of, caller_line}
use Rattle.of_plan.specs.Legal.{scripts_left, StandsBefore, HasSequence, HasOpenCall, HasEndState, LineIsWithinBound, IsLegal}
use Rattle.of_plan.specs.Worked.{worked_entry}
use Rattle.of_plan.proofs.HistoriesLists.{any_in, pairs_in_line}
use Rattle.of_plan.specs.Histories.{IsIn}
use Rattle.of_lives.specs.Lives.{Life, start_behind, renumbered_start}
use Rattle.of_lives.specs.OneHistory.{IsAnnouncedAt}
use Rattle.of_lives.specs.Worked.{first_life, second_life, begins_anew, adds_and_reads, one_more_script, worked_start, FollowsRenumbered}
use Rattle.of_lives.proofs.AllLives.{at_in}

reads : All (λ i. IsTrue (reads_only i)) (Load 0 ∷ [])
reads = All-cons (λ i. IsTrue (reads_only i)) (Load 0) [] refl (All-nil (λ i. IsTrue (reads_only i)))

abbrev behind_first : Start
behind_first = start_behind worked_start first_life

-- the life whose call is the one behind sequence n
abbrev next_at : (n : ℕ) → Life
next_at n = adds_and_reads 2 (n + 1) 7

module _ (n : ℕ) where
  abbrev middle : Start
  middle = record behind_first { seq = n }

  abbrev told : Report
  told = (next_at n).report

  one_by_one : (c : ℕ) → c < 2 → map (λ (e : Entry). e.index) (entries_of told c) ≡ range_with_len (finished_of middle c) (length (entries_of told c))
  one_by_one zero lt = refl
  one_by_one (suc zero) lt = refl
  one_by_one (suc (suc c)) lt = absurd (omega (arith, lt))

  of_scripts : (c : ℕ) → c < 2 → length (entries_of told c) ≤ scripts_left one_more_script middle c
  of_scripts zero lt = omega arith
  of_scripts (suc zero) lt = omega arith
  of_scripts (suc (suc c)) lt = absurd (omega (arith, lt))

  entries : (c : ℕ) → c < 2 → (caller_line told c).entries ≡ length (entries_of told c)
  entries zero lt = refl
  entries (suc zero) lt = refl
  entries (suc (suc c)) lt = absurd (omega (arith, lt))

  endings : (c : ℕ) → c < 2 → HasEndState (caller_line told c).state (caller_line told c).answered (scripts_left one_more_script middle c) (n + 1) 9
  endings zero lt = refl
  endings (suc zero) lt = refl
  endings (suc (suc c)) lt = absurd (omega (arith, lt))

  life_is_legal : IsLegal one_more_script middle told
  life_is_legal = record {
    in_order = record {
      of_callers = All-from_recursion (λ (e : Entry). e.caller < 2) told.entries (omega arith, (omega arith, tt));
      one_by_one = one_by_one;
      of_scripts = of_scripts;
    };
    open_calls = record {
      each_caller = refl;
      entries = entries;
      open_call = All-from_recursion (λ l. HasOpenCall l.state l.answered l.entries) told.callers (refl, (refl, tt));
    };
    by_sequence = record {
      order = pairs_in_line StandsBefore told.entries ((inr (refl, tt), tt), (tt, tt));
      sequences = All-from_recursion (λ e. HasSequence one_more_script middle e × (e.seq ≤ n + 1)) told.entries
          ((omega arith, omega arith), (((omega arith, reads), omega arith), tt));
      from_start = omega arith;
      none_left_out = λ k low high. any_in (λ (e : Entry). IsTrue e.announced × (e.seq ≡ k)) (worked_entry (n + 1) 1 2 true (Some 7)) told.entries (inl refl) (refl, omega (arith, low, high));
    };
    replies = refl;
    final_store = refl;
    endings = endings;
    within_bound = All-from_recursion (LineIsWithinBound one_more_script) told.callers
        ((omega arith, λ none. absurd (omega (arith, none))), ((omega arith, λ none. absurd (omega (arith, none))), tt));
  }

pub second_is_legal : IsLegal one_more_script behind_first second_life.report
second_is_legal = life_is_legal 1

pub anew_is_legal : IsLegal one_more_script (renumbered_start behind_first) begins_anew.report
anew_is_legal = life_is_legal 0

none_at_one : (e : Entry) → IsIn e second_life.report.entries → IsAnnouncedAt 1 e → ⊥
none_at_one e (inl is) at = absurd (omega (arith, ap (λ (f : Entry). f.seq) is, at.1))
none_at_one e (inr (inl is)) at = absurd (omega (arith, ap (λ (f : Entry). f.seq) is, at.1))
none_at_one e (inr (inr there)) at = absurd there

-- it leaves out sequence 1 if sequences were begun anew
pub second_is_not : FollowsRenumbered second_life → ⊥
second_is_not lives =
    let found = lives.1.0.0.by_sequence.none_left_out 1 (omega arith) (omega arith) in
    none_at_one found.1 (at_in second_life.report.entries found.0 found.1 found.2 found.3) found.4
