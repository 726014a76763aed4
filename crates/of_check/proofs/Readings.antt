-- What is read from the text of a report: the claims of its entries and of its callers' lines.
use Rattle.std.proofs.Common.{◌≡◌, ℕ, suc, ◌+◌, ◌≤◌, Bool, true, false, List, [], ◌∷◌, ◌++◌, length, drop, map, Option, Some, None, refl, ap, ◌∙◌, append_assoc, arith}
use Rattle.std.specs.Prelude.{codes, decimal, flat_map}
use Rattle.std.specs.List.{AllByRecursion as Each, enumerate_from}
use Rattle.std.proofs.Math.Seq.{drop-append_seam}
use Rattle.std.proofs.lemmas.List.{append-nil, length-map}
use Rattle.of_script.specs.declared.instr.Cause.{Cause}
use Rattle.of_script.specs.declared.instr.Cause.TheVariants.{Overflow, Short, NoRoom, Differs, BadOp}
use Rattle.of_script.specs.Text.{text_words}
use Rattle.of_script.proofs.Numbers.{number_again}
use Rattle.of_store.specs.Store.{Reply, Answered, Aborted}
use Rattle.of_plan.specs.Lines.{text_lines}
use Rattle.of_plan.specs.Report.{Entry, EndState, done, stopped, spent, Line, Report}
use Rattle.of_plan.proofs.TextLines.{NoNewline}
use Rattle.of_report.specs.StoreText.{store_text}
use Rattle.of_report.specs.ReportText.{reply_value_text, cause_text, reply_text, kind_text, entry_line, state_text, caller_line_text, seq_line, report_text}
use Rattle.of_plan.proofs.HistoriesLists.{each_weaker}
use Rattle.of_check.specs.declared.claims.CallClaim.{CallClaim}
use Rattle.of_check.specs.declared.claims.EndClaim.{EndClaim}
use Rattle.of_check.specs.Claims.{call_claim, code_end_state, end_claim, kind_named, state_named, call_of_line, end_of_line, onto_read, read_lines, call_claims_of_text, end_claims_of_text}
use Rattle.of_check.proofs.Bounds.{IsSmallCall, IsSmallEnd}
use Rattle.of_check.proofs.Texts.{number_line, number_first, number_last, one_line, first_line, first_lines, read_each, read_none}

-- ---- parts of one line

some_line : (o : Option ℕ) → NoNewline (reply_value_text o)
some_line None = (refl, (refl, (refl, (refl, (refl, tt)))))
some_line (Some n) = (refl, number_line n)

values_line : (values : List (Option ℕ)) → NoNewline (flat_map reply_value_text values)
values_line [] = tt
values_line (v ∷ vs) = one_line (reply_value_text v) (flat_map reply_value_text vs) (some_line v) (values_line vs)

cause_line : (c : Cause) → NoNewline (cause_text c)
cause_line Overflow = (refl, (refl, (refl, (refl, (refl, (refl, (refl, (refl, tt))))))))
cause_line Short = (refl, (refl, (refl, (refl, (refl, tt)))))
cause_line NoRoom = (refl, (refl, (refl, (refl, (refl, (refl, tt))))))
cause_line Differs = (refl, (refl, (refl, (refl, (refl, (refl, (refl, tt)))))))
cause_line BadOp = (refl, (refl, (refl, (refl, (refl, tt)))))

reply_line : (r : Reply) → NoNewline (reply_text r)
reply_line (Answered values) = values_line values
reply_line (Aborted place cause) = (refl, (refl, (refl, (refl, (refl, (refl, (refl, one_line (decimal place ++ codes " ") (cause_text cause) (one_line (decimal place) (codes " ") (number_line place) (refl, tt)) (cause_line cause))))))))

kind_line : (b : Bool) → NoNewline (kind_text b)
kind_line true = (refl, (refl, (refl, tt)))
kind_line false = (refl, (refl, (refl, (refl, tt))))

state_line : (s : EndState) → NoNewline (state_text s)
state_line done = (refl, (refl, (refl, (refl, tt))))
state_line stopped = (refl, (refl, (refl, (refl, (refl, (refl, (refl, tt)))))))
state_line spent = (refl, (refl, (refl, (refl, (refl, tt)))))

-- ---- the bodies of lines, each part behind the one before

abbrev entry_body : Entry → List ℕ
entry_body e = codes "entry " ++ (decimal e.seq ++ (32 ∷ (decimal e.caller ++ (32 ∷ (decimal e.index ++ (32 ∷ (kind_text e.announced ++ reply_text e.reply)))))))

abbrev caller_body : ℕ → Line → List ℕ
caller_body c l = codes "caller " ++ (decimal c ++ (32 ∷ (state_text l.state ++ (32 ∷ (decimal l.answered ++ (32 ∷ (decimal l.entries ++ (32 ∷ decimal l.longest))))))))

entry_parts : (a s c i k r n : List ℕ) → (a ++ (s ++ (32 ∷ (c ++ (32 ∷ (i ++ (32 ∷ (k ++ r)))))))) ++ n ≡ ((a ++ s ++ codes " " ++ c) ++ (codes " " ++ i ++ codes " " ++ k)) ++ r ++ n
entry_parts a s c i k r n = simp append_assoc refl

caller_parts : (a c s x e l n : List ℕ) → (a ++ (c ++ (32 ∷ (s ++ (32 ∷ (x ++ (32 ∷ (e ++ (32 ∷ l))))))))) ++ n ≡ (a ++ c ++ codes " " ++ s) ++ (codes " " ++ x ++ codes " " ++ e) ++ (codes " " ++ l ++ n)
caller_parts a c s x e l n = simp append_assoc refl

entry_one_line : (e : Entry) → NoNewline (entry_body e)
entry_one_line e =
    one_line (codes "entry ") _ (refl, (refl, (refl, (refl, (refl, (refl, tt))))))
    (one_line (decimal e.seq) _ (number_line e.seq) (
      refl,
      one_line (decimal e.caller) _ (number_line e.caller) (
        refl,
        one_line (decimal e.index) _ (number_line e.index) (
          refl,
          one_line (kind_text e.announced) _ (kind_line e.announced) (reply_line e.reply),
        ),
      ),
    ))

caller_one_line : (c : ℕ) (l : Line) → NoNewline (caller_body c l)
caller_one_line c l =
    one_line (codes "caller ") _ (refl, (refl, (refl, (refl, (refl, (refl, (refl, tt)))))))
    (one_line (decimal c) _ (number_line c) (
      refl,
      one_line (state_text l.state) _ (state_line l.state) (
        refl,
        one_line (decimal l.answered) _ (number_line l.answered) (
          refl,
          one_line (decimal l.entries) _ (number_line l.entries) (refl, number_line l.longest),
        ),
      ),
    ))

-- ---- the lines of a report

abbrev rest_body : ℕ × Line → List ℕ
rest_body x = caller_body x.0 x.1

parts : (t e c q s n : List ℕ) → ((((t ++ e) ++ c) ++ q) ++ s) ++ n ≡ t ++ (e ++ (c ++ (q ++ (s ++ n))))
parts t e c q s n = simp append_assoc refl

-- the lines of the callers and those after them
abbrev callers_on : Report → List (List ℕ)
callers_on r = map rest_body (enumerate_from 0 r.callers) ++ (codes "seq " ++ decimal r.seq) ∷ text_lines (store_text r.store ++ codes "end\n")

report_lines : (r : Report) → text_lines (report_text r) ≡ codes "onefile report 1" ∷ map entry_body r.entries ++ callers_on r
report_lines r =
    let left = store_text r.store ++ codes "end\n" in
    let after = flat_map caller_line_text (enumerate_from 0 r.callers) ++ (seq_line r.seq ++ left) in
    let callers : text_lines after ≡ callers_on r =
    first_lines caller_line_text rest_body (λ x. caller_one_line x.0 x.1) (λ x. caller_parts (codes "caller ") (decimal x.0) (state_text x.1.state) (decimal x.1.answered) (decimal x.1.entries) (decimal x.1.longest) (codes "\n")) (enumerate_from 0 r.callers) (seq_line r.seq ++ left)
    ∙ ap (λ (ls : List (List ℕ)). map rest_body (enumerate_from 0 r.callers) ++ ls) (first_line (codes "seq " ++ decimal r.seq) left (refl, (refl, (refl, (refl, number_line r.seq))))) in
    let entries : text_lines (flat_map entry_line r.entries ++ after) ≡ map entry_body r.entries ++ callers_on r =
    first_lines entry_line entry_body entry_one_line (λ e. entry_parts (codes "entry ") (decimal e.seq) (decimal e.caller) (decimal e.index) (kind_text e.announced) (reply_text e.reply) (codes "\n")) r.entries after
    ∙ ap (λ (ls : List (List ℕ)). map entry_body r.entries ++ ls) callers in
    ap text_lines (parts (codes "onefile report 1\n") (flat_map entry_line r.entries) (flat_map caller_line_text (enumerate_from 0 r.callers)) (seq_line r.seq) (store_text r.store) (codes "end\n"))
    ∙ first_line (codes "onefile report 1") (flat_map entry_line r.entries ++ after) (refl, (refl, (refl, (refl, (refl, (refl, (refl, (refl, (refl, (refl, (refl, (refl, (refl, (refl, (refl, (refl, tt))))))))))))))))
    ∙ ap (λ (ls : List (List ℕ)). codes "onefile report 1" ∷ ls) entries

-- ---- entries

kind_again : (b : Bool) → kind_named (kind_text b) ≡ Some b
kind_again true = refl
kind_again false = refl

kind_first : (b : Bool) (r : Reply) → text_words (kind_text b ++ reply_text r) ≡ kind_text b ∷ text_words (reply_text r)
kind_first true (Answered []) = refl
kind_first true (Answered (None ∷ vs)) = refl
kind_first true (Answered (Some n ∷ vs)) = refl
kind_first true (Aborted place cause) = refl
kind_first false (Answered []) = refl
kind_first false (Answered (None ∷ vs)) = refl
kind_first false (Answered (Some n ∷ vs)) = refl
kind_first false (Aborted place cause) = refl

entry_words : (e : Entry) → text_words (entry_body e) ≡ codes "entry" ∷ decimal e.seq ∷ decimal e.caller ∷ decimal e.index ∷ kind_text e.announced ∷ text_words (reply_text e.reply)
entry_words e =
    ap (λ (ws : List (List ℕ)). codes "entry" ∷ ws) (number_first e.seq _
    ∙ ap (λ (ws : List (List ℕ)). decimal e.seq ∷ ws) (number_first e.caller _
    ∙ ap (λ (ws : List (List ℕ)). decimal e.caller ∷ ws) (number_first e.index _
    ∙ ap (λ (ws : List (List ℕ)). decimal e.index ∷ ws) (kind_first e.announced e.reply))))

call_read : (s c i : ℕ) (b : Bool) (ws : List (List ℕ)) → s ≤ 4294967295 → c ≤ 4294967295 → i ≤ 4294967295 → call_of_line (codes "entry" ∷ decimal s ∷ decimal c ∷ decimal i ∷ kind_text b ∷ ws) ≡ Some (record { seq = s; caller = c; index = i; announced = b })
call_read s c i b ws low high few = rw (number_again 4294967295 s (omega arith) low, number_again 4294967295 c (omega arith) high, number_again 4294967295 i (omega arith) few, kind_again b) refl

entry_read : (e : Entry) → IsSmallCall e → call_of_line (text_words (entry_body e)) ≡ Some (call_claim e)
entry_read e small = ap call_of_line (entry_words e) ∙ call_read e.seq e.caller e.index e.announced (text_words (reply_text e.reply)) small.0 small.1 small.2

-- no entry is read after the last one
none_after : (ls : List Line) (seq : ℕ) (rest : List (List ℕ)) → read_lines call_of_line (map rest_body (enumerate_from 0 ls) ++ (codes "seq " ++ decimal seq) ∷ rest) ≡ []
none_after [] seq rest = read_none call_of_line (codes "seq " ++ decimal seq) rest refl
none_after (l ∷ ls) seq rest = read_none call_of_line (caller_body 0 l) (map rest_body (enumerate_from 1 ls) ++ (codes "seq " ++ decimal seq) ∷ rest) refl

-- ---- lines of callers

state_again : (s : EndState) → state_named (state_text s) ≡ Some (code_end_state s)
state_again done = refl
state_again stopped = refl
state_again spent = refl

state_first : (s : EndState) (rest : List ℕ) → text_words (state_text s ++ (32 ∷ rest)) ≡ state_text s ∷ text_words rest
state_first done rest = refl
state_first stopped rest = refl
state_first spent rest = refl

caller_words : (c : ℕ) (l : Line) → text_words (caller_body c l) ≡ codes "caller" ∷ decimal c ∷ state_text l.state ∷ decimal l.answered ∷ decimal l.entries ∷ decimal l.longest ∷ []
caller_words c l =
    ap (λ (ws : List (List ℕ)). codes "caller" ∷ ws) (number_first c _
    ∙ ap (λ (ws : List (List ℕ)). decimal c ∷ ws) (state_first l.state _
    ∙ ap (λ (ws : List (List ℕ)). state_text l.state ∷ ws) (number_first l.answered _
    ∙ ap (λ (ws : List (List ℕ)). decimal l.answered ∷ ws) (number_first l.entries _
    ∙ ap (λ (ws : List (List ℕ)). decimal l.entries ∷ ws) (number_last l.longest)))))

end_read : (c e : List ℕ) (s : EndState) (a t : ℕ) → a ≤ 4294967295 → t ≤ 4294967295 → end_of_line (codes "caller" ∷ c ∷ state_text s ∷ decimal a ∷ e ∷ decimal t ∷ []) ≡ Some (record { state = code_end_state s; answered = a; longest = t })
end_read c e s a t low high = rw (state_again s, number_again 4294967295 a (omega arith) low, number_again 4294967295 t (omega arith) high) refl

caller_read : (c : ℕ) (l : Line) → IsSmallEnd l → end_of_line (text_words (caller_body c l)) ≡ Some (end_claim l)
caller_read c l small = ap end_of_line (caller_words c l) ∙ end_read (decimal c) (decimal l.entries) l.state l.answered l.longest small.0 small.1

callers_read : (n : ℕ) (ls : List Line) (rest : List (List ℕ)) → Each IsSmallEnd ls → read_lines end_of_line (map rest_body (enumerate_from n ls) ++ rest) ≡ map end_claim ls ++ read_lines end_of_line rest
callers_read n [] rest small = refl
callers_read n (l ∷ ls) rest small =
    ap (λ (o : Option EndClaim). onto_read o (read_lines end_of_line (map rest_body (enumerate_from (n + 1) ls) ++ rest))) (caller_read n l small.0)
    ∙ ap (λ (es : List EndClaim). end_claim l ∷ es) (callers_read (n + 1) ls rest small.1)

-- ---- the text of a report

pub report_calls : (r : Report) → Each IsSmallCall r.entries → call_claims_of_text (report_text r) ≡ map call_claim r.entries
report_calls r small =
    ap (λ (ls : List (List ℕ)). read_lines call_of_line (drop 1 ls)) (report_lines r)
    ∙ read_each call_of_line entry_body call_claim r.entries (callers_on r) (each_weaker IsSmallCall (λ (e : Entry). call_of_line (text_words (entry_body e)) ≡ Some (call_claim e)) entry_read r.entries small)
    ∙ ap (λ (qs : List CallClaim). map call_claim r.entries ++ qs) (none_after r.callers r.seq _)
    ∙ append-nil (map call_claim r.entries)

after_entries : (t : List ℕ) (es : List Entry) (ls : List (List ℕ)) (n : ℕ) → n ≡ length es → drop (n + 1) (t ∷ map entry_body es ++ ls) ≡ ls
after_entries t es ls n is =
    ap (λ (k : ℕ). drop k (t ∷ map entry_body es ++ ls)) (let e : n + 1 ≡ suc (length (map entry_body es)) = omega (arith, is, length-map es entry_body) in e)
    ∙ drop-append_seam (map entry_body es) ls

pub report_ends : (r : Report) → Each IsSmallCall r.entries → Each IsSmallEnd r.callers → end_claims_of_text (report_text r) ≡ map end_claim r.callers
report_ends r calls small =
    let count : length (call_claims_of_text (report_text r)) ≡ length r.entries = ap length (report_calls r calls) ∙ length-map r.entries call_claim in
    ap (λ (ls : List (List ℕ)). read_lines end_of_line (drop (length (call_claims_of_text (report_text r)) + 1) ls)) (report_lines r)
    ∙ ap (read_lines end_of_line) (after_entries (codes "onefile report 1") r.entries (callers_on r) _ count)
    ∙ callers_read 0 r.callers ((codes "seq " ++ decimal r.seq) ∷ text_lines (store_text r.store ++ codes "end\n")) small
    ∙ ap (λ (es : List EndClaim). map end_claim r.callers ++ es) (read_none end_of_line (codes "seq " ++ decimal r.seq) (text_lines (store_text r.store ++ codes "end\n")) refl)
    ∙ append-nil (map end_claim r.callers)
