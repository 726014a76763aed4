-- How many scripts are done behind entries of a caller: as its last announced one says.
use Rattle.std.proofs.Common.{◌≡◌, ℕ, ◌+◌, ◌≤◌, inl, inr, Bool, true, false, cond, List, [], ◌∷◌, ◌++◌, refl, ap, ◌∙◌, arith}
use Rattle.std.specs.Prelude.{filter}
use Rattle.std.specs.List.{AllByRecursion as Each}
use Rattle.std.proofs.lemmas.List.Elements.{filter-append, recursion_from_All}
use Rattle.of_plan.specs.Report.{Entry}
use Rattle.of_plan.specs.Histories.{IsIn}
use Rattle.of_plan.proofs.HistoriesLists.{each_at, each_weaker, each_filter, in_right, InLine}
use Rattle.of_lives.specs.Lives.{done_behind}
use Rattle.of_lives.specs.OneHistory.{ComesLater, NoneAnnouncedOf}
use Rattle.of_lives.proofs.Callers.{is_of, is_caller}
use Rattle.of_lives.proofs.Indices.{Rises}

pick_low : (n x m : ℕ) (b : Bool) → n ≤ x → n ≤ m → n ≤ cond b x m
pick_low n x m true first second = first
pick_low n x m false first second = second

pick_high : (n x m : ℕ) (b : Bool) → (b ≡ true → x ≤ n) → m ≤ n → cond b x m ≤ n
pick_high n x m true first second = first refl
pick_high n x m false first second = second

pick_first : (n x m : ℕ) (b : Bool) → b ≡ true → n ≤ x → n ≤ cond b x m
pick_first n x m true is first = first
pick_first n x m false is first = absurd (cc)

-- no fewer than before, nor than each entry says
pub done_low : (n m : ℕ) (es : List Entry) → n ≤ m → Each (λ e. n ≤ e.index + 1) es → n ≤ done_behind m es
done_low n m [] low all = low
done_low n m (e ∷ es) low all = done_low n (cond e.announced (e.index + 1) m) es (pick_low n (e.index + 1) m e.announced all.0 low) all.1

-- no more than before, or than some announced entry says
pub done_high : (n m : ℕ) (es : List Entry) → m ≤ n → Each (λ e. e.announced ≡ true → e.index + 1 ≤ n) es → done_behind m es ≤ n
done_high n m [] high all = high
done_high n m (e ∷ es) high all = done_high n (cond e.announced (e.index + 1) m) es (pick_high n (e.index + 1) m e.announced all.0 high) all.1

-- where entries rise, each announced call is done behind them
pub done_above : (m : ℕ) (es : List Entry) → InLine Rises es → (e : Entry) → IsIn e es → e.announced ≡ true → e.index + 1 ≤ done_behind m es
done_above m [] line e here is = absurd here
done_above m (d ∷ es) line e (inl same) is =
    let low : e.index + 1 ≤ d.index + 1 = omega (arith, ap (λ (f : Entry). f.index) same) in
    let announced : d.announced ≡ true = ap (λ (f : Entry). f.announced) same ∙ is in
    done_low (e.index + 1) (cond d.announced (d.index + 1) m) es (pick_first (e.index + 1) (d.index + 1) m d.announced announced low)
    (each_weaker (Rises d) (λ (f : Entry). e.index + 1 ≤ f.index + 1) (λ f lt. omega (arith, lt, low)) es line.0)
done_above m (d ∷ es) line e (inr later) is = done_above (cond d.announced (d.index + 1) m) es line.1 e later is

-- where none is announced, as many as before
done_same : (m : ℕ) (es : List Entry) → Each (λ e. e.announced ≡ false) es → done_behind m es ≡ m
done_same m [] all = refl
done_same m (e ∷ es) all =
    ap (λ (b : Bool). done_behind (cond b (e.index + 1) m) es) all.0
    ∙ done_same m es all.1

-- entries behind entries
pub done_append : (n : ℕ) (es fs : List Entry) → done_behind n (es ++ fs) ≡ done_behind (done_behind n es) fs
done_append n [] fs = refl
done_append n (e ∷ es) fs = done_append (cond e.announced (e.index + 1) n) es fs

-- what stands behind an element is behind each before it
line_before : (R : Entry → Entry → Type 0) (es fs : List Entry) (e : Entry) → InLine R (es ++ e ∷ fs) → Each (λ d. R d e) es
line_before R [] fs e line = tt
line_before R (d ∷ es) fs e line = (each_at (R d) e (es ++ e ∷ fs) line.0 (in_right e es (e ∷ fs) (inl refl)), line_before R es fs e line.1)

-- what isn't announced, with no announced entry of its caller behind it, isn't done
pub not_done : (n : ℕ) (es fs : List Entry) (e : Entry) → InLine ComesLater (es ++ e ∷ fs) → n ≤ e.index → NoneAnnouncedOf e.caller (e ∷ fs)
    → done_behind n (filter (is_of e.caller) (es ++ e ∷ fs)) ≤ e.index
not_done n es fs e line low none =
    let mine : List Entry = filter (is_of e.caller) es in
    let others : List Entry = filter (is_of e.caller) (e ∷ fs) in
    let below = each_filter (λ (d : Entry). ComesLater d e) (λ (d : Entry). d.announced ≡ true → d.index + 1 ≤ e.index) (is_of e.caller)
    (λ d goes own is. omega (arith, goes (is_caller d.caller e.caller own) is)) es (line_before ComesLater es fs e line) in
    let unannounced = each_filter (λ (d : Entry). d.caller ≡ e.caller → d.announced ≡ false) (λ (d : Entry). d.announced ≡ false) (is_of e.caller)
    (λ d none own. none (is_caller d.caller e.caller own)) (e ∷ fs) (recursion_from_All (λ (d : Entry). d.caller ≡ e.caller → d.announced ≡ false) (e ∷ fs) none) in
    let first : done_behind n mine ≤ e.index = done_high e.index n mine low below in
    let same : done_behind n (filter (is_of e.caller) (es ++ e ∷ fs)) ≡ done_behind n mine =
    ap (done_behind n) (filter-append (is_of e.caller) es (e ∷ fs))
    ∙ done_append n mine others
    ∙ done_same (done_behind n mine) others unannounced in
    omega (arith, first, same)
