-- Each place of a plot has a cell of its own: from a cell one reads off its place.
use Rattle.std.proofs.Common.{◌≡◌, ℕ, zero, suc, ◌+◌, ◌-◌, ◌*◌, ◌/◌, ◌%◌, ◌<◌, ◌≤◌, inl, inr, cond, eqb, ltb, false, refl, sym, ◌∙◌, ap, arith}
use Rattle.std.proofs.lemmas.Bool.{lt-ltb, ne_eqb}
use Rattle.std.proofs.lemmas.Bool.Decides.{nat_tests}
use Rattle.std.proofs.lemmas.Nat.{div-mul-add, mod-mul-add, mul-le}
use Rattle.of_mem.specs.declared.plot.Plot.{Plot}
use Rattle.of_mem.specs.Places.{ticket_cell_at}
use Rattle.of_mem.proofs.BucketPlaces.{bucket_places, bucket_in}
use Rattle.of_mem.specs.Plots.{base, data_cell_count, DataPlace, Ticket, Shape, Reply, Register, Fresh, Free, Keys, Bucket, Head, Tail, Length, Block, HasPlace, cell_for, CellPlacesDiffer}

not_below : (a b : ℕ) → b ≤ a → ltb a b ≡ false
not_below a b h = grind (arith, nat_tests)

-- the place at this distance from a caller's first cell
abbrev of_caller : ℕ → ℕ → DataPlace
of_caller caller zero = Ticket caller
of_caller caller (suc zero) = Shape caller
of_caller caller (suc (suc j)) = Reply caller j

abbrev of_queue : ℕ → ℕ → DataPlace
of_queue q zero = Head q
of_queue q (suc zero) = Tail q
of_queue q (suc (suc f)) = Length q

-- the place at this distance from the first cell behind those of the callers
abbrev to_blocks : ℕ → DataPlace
to_blocks r = cond (ltb r 51) (Bucket (r - 19)) (cond (ltb r 63) (of_queue ((r - 51) / 3) ((r - 51) % 3)) (Block ((r - 63) / 3) ((r - 63) % 3)))

-- buckets that stand behind the blocks come last
abbrev from_fronts : (blocks r : ℕ) → DataPlace
from_fronts blocks r = cond (ltb r (63 + 3 * blocks)) (to_blocks r) (Bucket (r - (63 + 3 * blocks)))

abbrev of_store : (blocks r : ℕ) → DataPlace
of_store blocks r = cond (ltb r 16) (Register r) (cond (eqb r 16) Fresh (cond (eqb r 17) Free (cond (eqb r 18) Keys (from_fronts blocks r))))

abbrev place_at : Plot → ℕ → DataPlace
place_at p a = cond (ltb a (base p)) (of_caller (a / (p.instrs + 2)) (a % (p.instrs + 2))) (of_store p.blocks (a - base p))

past_counts : (blocks r : ℕ) → 18 < r → of_store blocks r ≡ from_fronts blocks r
past_counts blocks r h = rw (not_below r 16 (omega arith), ne_eqb r 16 (λ e. omega arith), ne_eqb r 17 (λ e. omega arith), ne_eqb r 18 (λ e. omega arith)) refl

at_queue : (blocks q f : ℕ) → q < 4 → f < 3 → from_fronts blocks (51 + (q * 3 + f)) ≡ of_queue q f
at_queue blocks q f h l = let d : 51 + (q * 3 + f) - 51 ≡ q * 3 + f = omega arith in
    rw (lt-ltb (51 + (q * 3 + f)) (63 + 3 * blocks) (omega arith), not_below (51 + (q * 3 + f)) 51 (omega arith), lt-ltb (51 + (q * 3 + f)) 63 (omega arith), d, div-mul-add q 3 f l, mod-mul-add q 3 f l) refl

module _ (p : Plot) where
  in_row : (caller j : ℕ) → caller < p.callers → j < p.instrs + 2 → ticket_cell_at p.instrs caller + j < base p
  in_row caller j h l = let k : (caller + 1) * (p.instrs + 2) ≤ p.callers * (p.instrs + 2) = mul-le (caller + 1) (p.instrs + 2) p.callers (p.instrs + 2) (omega arith) (omega arith) in
      let e : (caller + 1) * (p.instrs + 2) ≡ caller * (p.instrs + 2) + (p.instrs + 2) = suc-mul caller (p.instrs + 2) in omega arith
    where
      suc-mul : (a b : ℕ) → (a + 1) * b ≡ a * b + b
      suc-mul a b = omega arith

  at_caller : (caller j : ℕ) → caller < p.callers → j < p.instrs + 2 → place_at p (ticket_cell_at p.instrs caller + j) ≡ of_caller caller j
  at_caller caller j h l = rw (lt-ltb (ticket_cell_at p.instrs caller + j) (base p) (in_row caller j h l), div-mul-add caller (p.instrs + 2) j l, mod-mul-add caller (p.instrs + 2) j l) refl

  at_store : (a r : ℕ) → a ≡ base p + r → place_at p a ≡ of_store p.blocks r
  at_store a r e = let d : a - base p ≡ r = omega arith in rw (not_below a (base p) (omega arith), d) refl

  -- the place is read off its cell
  read_off : (x : DataPlace) → HasPlace p x → place_at p (cell_for p x) ≡ x
  read_off (Ticket caller) h = ap (place_at p) (omega arith) ∙ at_caller caller 0 h (omega arith)
  read_off (Shape caller) h = at_caller caller 1 h (omega arith)
  read_off (Reply caller place) h = ap (place_at p) (omega arith) ∙ at_caller caller (suc (suc place)) h.0 (omega (arith, h.1))
  read_off (Register r) h = at_store (cell_for p (Register r)) r refl ∙ rw (lt-ltb r 16 h) refl
  read_off Fresh h = at_store (cell_for p Fresh) 16 refl
  read_off Free h = at_store (cell_for p Free) 17 refl
  read_off Keys h = at_store (cell_for p Keys) 18 refl
  read_off (Bucket b) h = elim (bucket_places p.blocks) [
    | inl k ↦ at_store (cell_for p (Bucket b)) (19 + b) (omega (arith, k.1)) ∙ past_counts p.blocks (19 + b) (omega arith) ∙ rw (lt-ltb (19 + b) (63 + 3 * p.blocks) (omega (arith, k.0, h)), lt-ltb (19 + b) 51 (omega (arith, k.0, h))) (ap Bucket (omega arith))
    | inr k ↦ let r : ℕ = 63 + 3 * p.blocks + b in
        at_store (cell_for p (Bucket b)) r (omega (arith, k.0)) ∙ past_counts p.blocks r (omega arith) ∙ rw (not_below r (63 + 3 * p.blocks) (omega arith)) (ap Bucket (omega arith))
  ]
  read_off (Head q) h = at_store (cell_for p (Head q)) (51 + (q * 3 + 0)) (omega arith) ∙ past_counts p.blocks (51 + (q * 3 + 0)) (omega arith) ∙ at_queue p.blocks q 0 h (omega arith)
  read_off (Tail q) h = at_store (cell_for p (Tail q)) (51 + (q * 3 + 1)) (omega arith) ∙ past_counts p.blocks (51 + (q * 3 + 1)) (omega arith) ∙ at_queue p.blocks q 1 h (omega arith)
  read_off (Length q) h = at_store (cell_for p (Length q)) (51 + (q * 3 + 2)) (omega arith) ∙ past_counts p.blocks (51 + (q * 3 + 2)) (omega arith) ∙ at_queue p.blocks q 2 h (omega arith)
  read_off (Block b field) h =
      let r : ℕ = 63 + (b * 3 + field) in
      let d : r - 63 ≡ b * 3 + field = omega arith in
      at_store (cell_for p (Block b field)) r (omega arith) ∙ past_counts p.blocks r (omega arith) ∙ rw (lt-ltb r (63 + 3 * p.blocks) (omega (arith, h.0, h.1)), not_below r 51 (omega arith), not_below r 63 (omega arith), d, div-mul-add b 3 field h.1, mod-mul-add b 3 field h.1) refl

  below : (x : DataPlace) → HasPlace p x → cell_for p x < data_cell_count p
  below (Ticket caller) h = omega (arith, in_row caller 0 h (omega arith))
  below (Shape caller) h = omega (arith, in_row caller 1 h (omega arith))
  below (Reply caller place) h = omega (arith, in_row caller (suc (suc place)) h.0 (omega (arith, h.1)))
  below (Register r) h = omega arith
  below Fresh h = omega arith
  below Free h = omega arith
  below Keys h = omega arith
  below (Bucket b) h = (bucket_in (base p) p.blocks b h).1
  below (Head q) h = omega arith
  below (Tail q) h = omega arith
  below (Length q) h = omega arith
  below (Block b field) h = omega (arith, h.0, h.1)

  pub places_differ : CellPlacesDiffer p
  places_differ = record {
    below = below;
    differ = λ x y h k e. sym (read_off x h) ∙ ap (place_at p) e ∙ read_off y k;
  }
