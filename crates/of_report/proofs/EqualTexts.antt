-- What two equal texts of reports have in common: the calls of their entries, their lines of callers and their sequences.
use Rattle.std.proofs.Common.{◌≡◌, ◌≢◌, ℕ, zero, suc, ◌+◌, ◌/◌, ◌%◌, ◌^◌, ◌<◌, ◌≤◌, Bool, true, false, cond, nat_lt, List, [], ◌∷◌, ◌++◌, get_or, drop, Option, Some, None, refl, sym, ap, ◌∙◌, append_assoc, arith}
use Rattle.std.specs.Prelude.{codes, decimal, flat_map, ◌==◌}
use Rattle.std.specs.Fmt.{digits, digits_onto, digit_glyph}
use Rattle.std.specs.List.{AllByRecursion as Each, enumerate_from}
use Rattle.std.specs.Str.Parse.{digits_value}
use Rattle.std.proofs.lemmas.Fmt.{decimal_is_IsNumeral}
use Rattle.of_script.specs.declared.instr.Cause.{Cause}
use Rattle.of_script.specs.declared.instr.Cause.TheVariants.{Overflow, Short, NoRoom, Differs, BadOp}
use Rattle.of_store.specs.Store.{Reply, Answered, Aborted}
use Rattle.of_plan.specs.Report.{Entry, EndState, done, stopped, spent, Line, Report}
use Rattle.of_report.specs.StoreText.{store_text}
use Rattle.of_report.specs.ReportText.{reply_value_text, cause_text, reply_text, kind_text, entry_line, state_text, caller_line_text, seq_line, report_text}

-- ---- a text up to the first byte that is this one

heads : (x y : ℕ) (xs ys : List ℕ) → x ∷ xs ≡ y ∷ ys → x ≡ y
heads x y xs ys e = cc

tails : (x y : ℕ) (xs ys : List ℕ) → x ∷ xs ≡ y ∷ ys → xs ≡ ys
tails x y xs ys e = cc

-- no byte is this one
abbrev Lacks : ℕ → List ℕ → Type 0
Lacks b [] = Unit {0}
Lacks b (x ∷ xs) = (x ≢ b) × Lacks b xs

cut_once : (b : ℕ) (u v x y : List ℕ) → Lacks b u → Lacks b v → u ++ (b ∷ x) ≡ v ++ (b ∷ y) → (u ≡ v) × (x ≡ y)
cut_once b [] [] x y h k e = (refl, tails b b x y e)
cut_once b [] (d ∷ v) x y h k e = absurd (k.0 (sym (heads b d x (v ++ (b ∷ y)) e)))
cut_once b (c ∷ u) [] x y h k e = absurd (h.0 (heads c b (u ++ (b ∷ x)) y e))
cut_once b (c ∷ u) (d ∷ v) x y h k e =
    let first = heads c d (u ++ (b ∷ x)) (v ++ (b ∷ y)) e in
    let rest = cut_once b u v x y h.1 k.1 (tails c d (u ++ (b ∷ x)) (v ++ (b ∷ y)) e) in
    ((λ i. first i ∷ rest.0 i), rest.1)

lacks_both : (b : ℕ) (u v : List ℕ) → Lacks b u → Lacks b v → Lacks b (u ++ v)
lacks_both b [] v h k = k
lacks_both b (x ∷ u) v h k = (h.0, lacks_both b u v h.1 k)

-- ---- numbers

-- a digit is no byte below the digits
glyph_high : (t : Bool) (d : ℕ) → nat_lt d 10 ≡ t → 48 ≤ cond t (48 + d) (87 + d)
glyph_high true d is = omega arith
glyph_high false d is = omega arith

chosen : (b : Bool) (x y : List ℕ) → Each (λ c. 48 ≤ c) x → Each (λ c. 48 ≤ c) y → Each (λ c. 48 ≤ c) (cond b x y)
chosen true x y h k = h
chosen false x y h k = k

digits_high : (k n : ℕ) (acc : List ℕ) → Each (λ c. 48 ≤ c) acc → Each (λ c. 48 ≤ c) (digits_onto (suc k) 10 false n acc)
digits_high zero n acc h =
    let more : Each (λ c. 48 ≤ c) (digit_glyph false (n % 10) ∷ acc) = (glyph_high (nat_lt (n % 10) 10) (n % 10) refl, h) in
    chosen (n / 10 == 0) (digit_glyph false (n % 10) ∷ acc) (digit_glyph false (n % 10) ∷ acc) more more
digits_high (suc k) n acc h =
    let more : Each (λ c. 48 ≤ c) (digit_glyph false (n % 10) ∷ acc) = (glyph_high (nat_lt (n % 10) 10) (n % 10) refl, h) in
    chosen (n / 10 == 0) (digit_glyph false (n % 10) ∷ acc) (digits_onto (suc k) 10 false (n / 10) (digit_glyph false (n % 10) ∷ acc)) more (digits_high k (n / 10) (digit_glyph false (n % 10) ∷ acc) more)

number_high : (n : ℕ) → Each (λ c. 48 ≤ c) (decimal n)
unfolding digits
number_high n = digits_high 63 n [] tt

high_lacks : (b : ℕ) → b < 48 → (w : List ℕ) → Each (λ c. 48 ≤ c) w → Lacks b w
high_lacks b low [] h = tt
high_lacks b low (c ∷ w) h = ((λ e. omega (arith, e, h.0)), high_lacks b low w h.1)

number_lacks : (b n : ℕ) → b < 48 → Lacks b (decimal n)
number_lacks b n low = high_lacks b low (decimal n) (number_high n)

same_number : (n m : ℕ) → n < 2 ^ 64 → m < 2 ^ 64 → decimal n ≡ decimal m → n ≡ m
same_number n m small other e = sym (decimal_is_IsNumeral n small).1 ∙ ap (digits_value 10) e ∙ (decimal_is_IsNumeral m other).1

-- a number up to a space or a newline
number_cut : (b n m : ℕ) (x y : List ℕ) → b < 48 → n < 2 ^ 64 → m < 2 ^ 64 → decimal n ++ (b ∷ x) ≡ decimal m ++ (b ∷ y) → (n ≡ m) × (x ≡ y)
number_cut b n m x y low small other e =
    let parts = cut_once b (decimal n) (decimal m) x y (number_lacks b n low) (number_lacks b m low) e in
    (same_number n m small other parts.0, parts.1)

-- ---- a reply is on one line

value_line : (o : Option ℕ) → Lacks 10 (reply_value_text o)
value_line None = ((λ e. omega (arith, e)), ((λ e. omega (arith, e)), ((λ e. omega (arith, e)), ((λ e. omega (arith, e)), ((λ e. omega (arith, e)), tt)))))
value_line (Some n) = ((λ e. omega (arith, e)), number_lacks 10 n (omega arith))

values_line : (values : List (Option ℕ)) → Lacks 10 (flat_map reply_value_text values)
values_line [] = tt
values_line (v ∷ vs) = lacks_both 10 (reply_value_text v) (flat_map reply_value_text vs) (value_line v) (values_line vs)

-- letters
letters_line : (w : List ℕ) → Each (λ c. 48 ≤ c) w → Lacks 10 w
letters_line w h = high_lacks 10 (omega arith) w h

cause_line : (c : Cause) → Lacks 10 (cause_text c)
cause_line Overflow = letters_line (codes "overflow") (omega arith, (omega arith, (omega arith, (omega arith, (omega arith, (omega arith, (omega arith, (omega arith, tt))))))))
cause_line Short = letters_line (codes "short") (omega arith, (omega arith, (omega arith, (omega arith, (omega arith, tt)))))
cause_line NoRoom = letters_line (codes "noroom") (omega arith, (omega arith, (omega arith, (omega arith, (omega arith, (omega arith, tt))))))
cause_line Differs = letters_line (codes "differs") (omega arith, (omega arith, (omega arith, (omega arith, (omega arith, (omega arith, (omega arith, tt)))))))
cause_line BadOp = letters_line (codes "badop") (omega arith, (omega arith, (omega arith, (omega arith, (omega arith, tt)))))

reply_line : (r : Reply) → Lacks 10 (reply_text r)
reply_line (Answered values) = values_line values
reply_line (Aborted place cause) =
    lacks_both 10 (codes " abort " ++ decimal place ++ codes " ") (cause_text cause)
    (lacks_both 10 (codes " abort " ++ decimal place) (codes " ")
    (lacks_both 10 (codes " abort ") (decimal place) ((λ e. omega (arith, e)), ((λ e. omega (arith, e)), ((λ e. omega (arith, e)), ((λ e. omega (arith, e)), ((λ e. omega (arith, e)), ((λ e. omega (arith, e)), ((λ e. omega (arith, e)), tt))))))) (number_lacks 10 place (omega arith)))
    ((λ e. omega (arith, e)), tt))
    (cause_line cause)

-- ---- words that are one of a few

kind_cut : (b d : Bool) (x y : List ℕ) → kind_text b ++ x ≡ kind_text d ++ y → (b ≡ d) × (x ≡ y)
kind_cut true true x y e = (refl, ap (drop 3) e)
kind_cut true false x y e = absurd (omega (arith, ap (λ (l : List ℕ). get_or l 1 0) e))
kind_cut false true x y e = absurd (omega (arith, ap (λ (l : List ℕ). get_or l 1 0) e))
kind_cut false false x y e = (refl, ap (drop 4) e)

state_cut : (s t : EndState) (x y : List ℕ) → state_text s ++ x ≡ state_text t ++ y → (s ≡ t) × (x ≡ y)
state_cut done done x y e = (refl, ap (drop 4) e)
state_cut done stopped x y e = absurd (omega (arith, ap (λ (l : List ℕ). get_or l 0 0) e))
state_cut done spent x y e = absurd (omega (arith, ap (λ (l : List ℕ). get_or l 0 0) e))
state_cut stopped done x y e = absurd (omega (arith, ap (λ (l : List ℕ). get_or l 0 0) e))
state_cut stopped stopped x y e = (refl, ap (drop 7) e)
state_cut stopped spent x y e = absurd (omega (arith, ap (λ (l : List ℕ). get_or l 1 0) e))
state_cut spent done x y e = absurd (omega (arith, ap (λ (l : List ℕ). get_or l 0 0) e))
state_cut spent stopped x y e = absurd (omega (arith, ap (λ (l : List ℕ). get_or l 1 0) e))
state_cut spent spent x y e = (refl, ap (drop 5) e)

-- ---- entries

-- its numbers are printed in full
pub record IsSmallEntry (e : Entry) : Type 0 where
  pub seq : e.seq < 2 ^ 64
  pub caller : e.caller < 2 ^ 64
  pub index : e.index < 2 ^ 64

-- the entries are alike but for their replies
pub record IsAlike (e f : Entry) : Type 0 where
  pub seq : e.seq ≡ f.seq
  pub caller : e.caller ≡ f.caller
  pub index : e.index ≡ f.index
  pub announced : e.announced ≡ f.announced

abbrev pub AreAlike : List Entry → List Entry → Type 0
AreAlike [] [] = Unit {0}
AreAlike [] (f ∷ fs) = ⊥
AreAlike (e ∷ es) [] = ⊥
AreAlike (e ∷ es) (f ∷ fs) = IsAlike e f × AreAlike es fs

entry_parts : (a s c i k r rest : List ℕ) → (((a ++ s ++ codes " " ++ c) ++ (codes " " ++ i ++ codes " " ++ k)) ++ r ++ codes "\n") ++ rest ≡ a ++ (s ++ (32 ∷ (c ++ (32 ∷ (i ++ (32 ∷ (k ++ (r ++ (10 ∷ rest)))))))))
entry_parts a s c i k r rest = simp append_assoc refl

abbrev entry_then : Entry → List ℕ → List ℕ
entry_then e rest = codes "entry " ++ (decimal e.seq ++ (32 ∷ (decimal e.caller ++ (32 ∷ (decimal e.index ++ (32 ∷ (kind_text e.announced ++ (reply_text e.reply ++ (10 ∷ rest)))))))))

entry_is : (e : Entry) (rest : List ℕ) → entry_line e ++ rest ≡ entry_then e rest
entry_is e rest = entry_parts (codes "entry ") (decimal e.seq) (decimal e.caller) (decimal e.index) (kind_text e.announced) (reply_text e.reply) rest

entry_cut : (e f : Entry) (x y : List ℕ) → IsSmallEntry e → IsSmallEntry f → entry_then e x ≡ entry_then f y → IsAlike e f × (x ≡ y)
entry_cut e f x y h k same =
    let seqs = number_cut 32 e.seq f.seq _ _ (omega arith) h.seq k.seq (ap (drop 6) same) in
    let callers = number_cut 32 e.caller f.caller _ _ (omega arith) h.caller k.caller seqs.1 in
    let indices = number_cut 32 e.index f.index _ _ (omega arith) h.index k.index callers.1 in
    let kinds = kind_cut e.announced f.announced _ _ indices.1 in
    let replies = cut_once 10 (reply_text e.reply) (reply_text f.reply) x y (reply_line e.reply) (reply_line f.reply) kinds.1 in
    (record { seq = seqs.0; caller = callers.0; index = indices.0; announced = kinds.0 }, replies.1)

-- no entry begins here
abbrev BeginsNoEntry : List ℕ → Type 0
BeginsNoEntry x = get_or x 0 0 ≢ 101

entries_cut : (es fs : List Entry) (x y : List ℕ) → Each IsSmallEntry es → Each IsSmallEntry fs → BeginsNoEntry x → BeginsNoEntry y → flat_map entry_line es ++ x ≡ flat_map entry_line fs ++ y → AreAlike es fs × (x ≡ y)
entries_cut [] [] x y h k nx ny e = (tt, e)
entries_cut [] (f ∷ fs) x y h k nx ny e = absurd (nx (ap (λ (l : List ℕ). get_or l 0 0) e))
entries_cut (e ∷ es) [] x y h k nx ny same = absurd (ny (ap (λ (l : List ℕ). get_or l 0 0) (sym same)))
entries_cut (e ∷ es) (f ∷ fs) x y h k nx ny same =
    let first = entry_cut e f (flat_map entry_line es ++ x) (flat_map entry_line fs ++ y) h.0 k.0
    (sym (entry_is e (flat_map entry_line es ++ x)) ∙ sym (append_assoc (entry_line e) (flat_map entry_line es) x) ∙ same ∙ append_assoc (entry_line f) (flat_map entry_line fs) y ∙ entry_is f (flat_map entry_line fs ++ y)) in
    let rest = entries_cut es fs x y h.1 k.1 nx ny first.1 in
    ((first.0, rest.0), rest.1)

-- ---- lines of callers

pub record IsSmallLine (l : Line) : Type 0 where
  pub answered : l.answered < 2 ^ 64
  pub entries : l.entries < 2 ^ 64
  pub longest : l.longest < 2 ^ 64

line_parts : (a c s n m l rest : List ℕ) → ((a ++ c ++ codes " " ++ s) ++ (codes " " ++ n ++ codes " " ++ m) ++ (codes " " ++ l ++ codes "\n")) ++ rest ≡ a ++ (c ++ (32 ∷ (s ++ (32 ∷ (n ++ (32 ∷ (m ++ (32 ∷ (l ++ (10 ∷ rest))))))))))
line_parts a c s n m l rest = simp append_assoc refl

abbrev line_then : ℕ → Line → List ℕ → List ℕ
line_then c l rest = codes "caller " ++ (decimal c ++ (32 ∷ (state_text l.state ++ (32 ∷ (decimal l.answered ++ (32 ∷ (decimal l.entries ++ (32 ∷ (decimal l.longest ++ (10 ∷ rest))))))))))

line_is : (c : ℕ) (l : Line) (rest : List ℕ) → caller_line_text (c, l) ++ rest ≡ line_then c l rest
line_is c l rest = line_parts (codes "caller ") (decimal c) (state_text l.state) (decimal l.answered) (decimal l.entries) (decimal l.longest) rest

line_cut : (c : ℕ) (l m : Line) (x y : List ℕ) → IsSmallLine l → IsSmallLine m → line_then c l x ≡ line_then c m y → (l ≡ m) × (x ≡ y)
line_cut c l m x y h k same =
    let callers = cut_once 32 (decimal c) (decimal c) _ _ (number_lacks 32 c (omega arith)) (number_lacks 32 c (omega arith)) (ap (drop 7) same) in
    let states = state_cut l.state m.state _ _ callers.1 in
    let answered = number_cut 32 l.answered m.answered _ _ (omega arith) h.answered k.answered (tails 32 32 _ _ states.1) in
    let entries = number_cut 32 l.entries m.entries _ _ (omega arith) h.entries k.entries answered.1 in
    let longest = number_cut 10 l.longest m.longest x y (omega arith) h.longest k.longest entries.1 in
    ((λ i. record { state = states.0 i; answered = answered.0 i; entries = entries.0 i; longest = longest.0 i }), longest.1)

-- no caller's line begins here
abbrev BeginsNoLine : List ℕ → Type 0
BeginsNoLine x = get_or x 0 0 ≢ 99

lines_cut : (n : ℕ) (ls ms : List Line) (x y : List ℕ) → Each IsSmallLine ls → Each IsSmallLine ms → BeginsNoLine x → BeginsNoLine y
    → flat_map caller_line_text (enumerate_from n ls) ++ x ≡ flat_map caller_line_text (enumerate_from n ms) ++ y → (ls ≡ ms) × (x ≡ y)
lines_cut n [] [] x y h k nx ny e = (refl, e)
lines_cut n [] (m ∷ ms) x y h k nx ny e = absurd (nx (ap (λ (l : List ℕ). get_or l 0 0) e))
lines_cut n (l ∷ ls) [] x y h k nx ny e = absurd (ny (ap (λ (t : List ℕ). get_or t 0 0) (sym e)))
lines_cut n (l ∷ ls) (m ∷ ms) x y h k nx ny e =
    let more = flat_map caller_line_text (enumerate_from (n + 1) ls) in
    let other = flat_map caller_line_text (enumerate_from (n + 1) ms) in
    let first = line_cut n l m (more ++ x) (other ++ y) h.0 k.0
    (sym (line_is n l (more ++ x)) ∙ sym (append_assoc (caller_line_text (n, l)) more x) ∙ e ∙ append_assoc (caller_line_text (n, m)) other y ∙ line_is n m (other ++ y)) in
    let rest = lines_cut (n + 1) ls ms x y h.1 k.1 nx ny first.1 in
    ((λ i. first.0 i ∷ rest.0 i), rest.1)

-- ---- the whole text

seq_parts : (a n rest : List ℕ) → (a ++ n ++ codes "\n") ++ rest ≡ a ++ (n ++ (10 ∷ rest))
seq_parts a n rest = simp append_assoc refl

text_parts : (t e c s x n : List ℕ) → ((((t ++ e) ++ c) ++ s) ++ x) ++ n ≡ t ++ (e ++ (c ++ (s ++ (x ++ n))))
text_parts t e c s x n = simp append_assoc refl

lines_no_entry : (ls : List Line) (seq : ℕ) (x : List ℕ) → BeginsNoEntry (flat_map caller_line_text (enumerate_from 0 ls) ++ (seq_line seq ++ x))
lines_no_entry [] seq x = λ e. omega (arith, e)
lines_no_entry (l ∷ ls) seq x = λ e. omega (arith, e)

-- all numbers but those of replies and stores are printed in full
pub record IsSmallReport (r : Report) : Type 0 where
  pub entries : Each IsSmallEntry r.entries
  pub callers : Each IsSmallLine r.callers
  pub seq : r.seq < 2 ^ 64

pub record AreAlikeReports (r q : Report) : Type 0 where
  pub entries : AreAlike r.entries q.entries
  pub callers : r.callers ≡ q.callers
  pub seq : r.seq ≡ q.seq

abbrev behind_lines : Report → List ℕ
behind_lines r = seq_line r.seq ++ (store_text r.store ++ codes "end\n")

text_is : (r : Report) → report_text r ≡ codes "onefile report 1\n" ++ (flat_map entry_line r.entries ++ (flat_map caller_line_text (enumerate_from 0 r.callers) ++ behind_lines r))
text_is r = text_parts (codes "onefile report 1\n") (flat_map entry_line r.entries) (flat_map caller_line_text (enumerate_from 0 r.callers)) (seq_line r.seq) (store_text r.store) (codes "end\n")

pub alike_reports : (r q : Report) → IsSmallReport r → IsSmallReport q → report_text r ≡ report_text q → AreAlikeReports r q
alike_reports r q h k same =
    let entries = entries_cut r.entries q.entries _ _ h.entries k.entries (lines_no_entry r.callers r.seq (store_text r.store ++ codes "end\n")) (lines_no_entry q.callers q.seq (store_text q.store ++ codes "end\n")) (ap (drop 17) (sym (text_is r) ∙ same ∙ text_is q)) in
    let lines = lines_cut 0 r.callers q.callers (behind_lines r) (behind_lines q) h.callers k.callers (λ e. omega (arith, e)) (λ e. omega (arith, e)) entries.1 in
    let seqs = number_cut 10 r.seq q.seq _ _ (omega arith) h.seq k.seq (ap (drop 4) (sym (seq_parts (codes "seq ") (decimal r.seq) (store_text r.store ++ codes "end\n")) ∙ lines.1 ∙ seq_parts (codes "seq ") (decimal q.seq) (store_text q.store ++ codes "end\n"))) in
    record { entries = entries.0; callers = lines.0; seq = seqs.0 }
