-- What the code does with a map is the effect of the instruction.
use Rattle.std.proofs.Common.{◌≡◌, ℕ, ◌-◌, ◌<◌, ◌≤◌, true, false, leb, inl, inr, Option, Some, None, is_some, IfSome, Ok, Err, refl, sym, ap, ◌∙◌, arith}
use Rattle.std.specs.Prelude.{option_copied}
use denote.Ref.{Bor}
use Rattle.std.specs.FinMap as fm
use Rattle.std.specs.Ordering.{nat_cmp}
use Rattle.std.proofs.lemmas.Bool.{le-leb, le-ltb}
use Rattle.std.proofs.lemmas.Bool.Decides.{leb_tells}
use Rattle.of_script.specs.Language.{greatest}
use Rattle.of_script.specs.declared.instr.Instr.TheVariants.{Put, Del, DropBelow}
use Rattle.of_script.specs.declared.instr.Cause.TheVariants.{NoRoom}
use Rattle.of_store.specs.declared.store.TheConstants.{MOST_ORDERED_BLOCKS}
use Rattle.of_store.specs.Store.{Store, InstrEffect, instr_effect, stored_count, keys_from}

pub put_full : (s : Store) (k v : ℕ) → fm.get s.keys k ≡ None → s.room ≤ stored_count s → instr_effect s (Put k v) ≡ Err NoRoom
put_full s k v e full = rw (e, le-leb _ _ full) refl

pub put_new : (s : Store) (m : fm.FinMap nat_cmp ℕ) (k v : ℕ) → fm.get s.keys k ≡ None → stored_count s < s.room → m ≡ fm.insert s.keys k v → instr_effect s (Put k v) ≡ Ok (record s { keys = m }, None)
put_new s m k v e fits is =
    let not_full : leb s.room (stored_count s) ≡ false = elim (leb_tells s.room (stored_count s)) [ inl p ↦ absurd (let q = p.1 in omega arith) | inr p ↦ p.0 ] in
    rw (e, not_full) (ap (λ (n : fm.FinMap nat_cmp ℕ). Ok (record s { keys = n }, None)) (sym is))

pub put_old : (s : Store) (m : fm.FinMap nat_cmp ℕ) (k v : ℕ) (before : Option ℕ) → fm.get s.keys k ≡ before → is_some before ≡ true → m ≡ fm.insert s.keys k v → instr_effect s (Put k v) ≡ Ok (record s { keys = m }, before)
put_old s m k v None e there is = absurd cc
put_old s m k v (Some w) e there is = rw e (ap (λ (n : fm.FinMap nat_cmp ℕ). Ok (record s { keys = n }, Some w)) (sym is))

pub del_effect : (s : Store) (m : fm.FinMap nat_cmp ℕ) (k : ℕ) (before : Option ℕ) → before ≡ fm.get s.keys k → m ≡ fm.remove s.keys k → instr_effect s (Del k) ≡ Ok (record s { keys = m }, before)
del_effect s m k before e is = let f : fm.FinMap nat_cmp ℕ → Option ℕ → InstrEffect = λ n o. Ok (record s { keys = n }, o) in ap (λ (n : fm.FinMap nat_cmp ℕ). f n (fm.get s.keys k)) (sym is) ∙ ap (f m) (sym e)

pub drop_effect : (s : Store) (m : fm.FinMap nat_cmp ℕ) (k n : ℕ) → s.room ≤ MOST_ORDERED_BLOCKS → m ≡ keys_from s.keys k → n ≡ fm.len s.keys - fm.len m → instr_effect s (DropBelow k) ≡ Ok (record s { keys = m }, Some n)
drop_effect s m k n few is e =
    let f : fm.FinMap nat_cmp ℕ → ℕ → InstrEffect = λ x y. Ok (record s { keys = x }, Some y) in
    rw (le-ltb MOST_ORDERED_BLOCKS s.room few) (ap (λ (x : fm.FinMap nat_cmp ℕ). f x (fm.len s.keys - fm.len x)) (sym is) ∙ ap (f m) (sym e))

-- ---- what a look-up answers

pub small_value : (o : Option ℕ) → ((v : ℕ) → o ≡ Some v → v ≤ greatest) → IfSome o (λ v. v ≤ greatest)
small_value None h = tt
small_value (Some v) h = h v refl

pub copied_none : (o : Option (Bor ℕ)) → is_some o ≡ false → option_copied o ≡ None
copied_none None e = refl
copied_none (Some v) e = absurd cc

pub copied_some : (o : Option (Bor ℕ)) → is_some o ≡ true → is_some (option_copied o) ≡ true
copied_some None e = absurd cc
copied_some (Some v) e = refl

pub none_from : (o : Option ℕ) → is_some o ≡ false → o ≡ None
none_from None e = refl
none_from (Some v) e = absurd cc
