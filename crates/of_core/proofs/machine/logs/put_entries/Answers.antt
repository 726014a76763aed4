use Rattle.std.proofs.Common.{◌≡◌, ℕ, ◌<◌, ◌+◌, ◌*◌, List, length, get_or, take, drop, arith, ap, ◌∙◌, sym, refl}
use Rattle.of_mem.specs.WriteSet.{WriteSet}
use Rattle.of_mem.specs.CellMap.{put_pair, put_all}
use Rattle.of_core.specs.Machine.{log_words, log_of}
use Rattle.of_core.proofs.Logs.{length-log_words, words_at}
use Rattle.of_core.proofs.Puts.{log_of_words, put_part}
use Rattle.of_core.proofs.machine.logs.put_entries.Goals as goal

pub bounds-copy-at : goal.bounds-copy-at
bounds-copy-at c =
    let size : length c.args.copy.now ≡ 2 * length c.requires.entries.0 + 1 = ap length c.requires.entries.1 ∙ length-log_words c.requires.entries.0 in
    omega (arith, c.requires.entries.3)

pub bounds-copy-at-in-loop-j : goal.bounds-copy-at-in-loop-j
bounds-copy-at-in-loop-j c =
    let size : length c.args.copy.now ≡ 2 * length c.requires.entries.0 + 1 = ap length c.requires.entries.1 ∙ length-log_words c.requires.entries.0 in
    omega (arith, c.requires.entries.3)

pub put-requires : goal.put-requires
put-requires c =
    let es : List (ℕ × ℕ) = c.requires.entries.0 in
    let j : ℕ = c.loop-j.j in
    let here : j < length es = omega (arith, c.requires.entries.3) in
    let addr : get_or c.args.copy.now (2 * j + 1) 0 ≡ (get_or es j (0, 0)).0 = ap (λ (ws : List ℕ). get_or ws (2 * j + 1) 0) c.requires.entries.1 ∙ (words_at es j here).0 in
    let below : (get_or es j (0, 0)).0 < c.args.log.now.room = c.requires.entries.2 j (0, 0) here in
    omega (arith, c.loop-j.invariant.room)

pub loop-j-preserved : goal.loop-j-preserved
loop-j-preserved c =
    let es : List (ℕ × ℕ) = c.requires.entries.0 in
    let first : List (ℕ × ℕ) = c.args.log.now.entries in
    let j : ℕ = c.loop-j.j in
    let from : ℕ = c.args.from in
    let here : j < length es = omega (arith, c.requires.entries.3) in
    let addr : get_or c.args.copy.now (2 * j + 1) 0 ≡ (get_or es j (0, 0)).0 = ap (λ (ws : List ℕ). get_or ws (2 * j + 1) 0) c.requires.entries.1 ∙ (words_at es j here).0 in
    let value : get_or c.args.copy.now (2 * j + 1 + 1) 0 ≡ (get_or es j (0, 0)).1 = ap (λ (ws : List ℕ). get_or ws (2 * j + 1 + 1) 0) c.requires.entries.1 ∙ ap (λ (k : ℕ). get_or (log_words es) k 0) (let z : 2 * j + 1 + 1 ≡ 2 * j + 2 = omega arith in z) ∙ (words_at es j here).1 in
    let all : log_of c.args.copy.now ≡ es = ap log_of c.requires.entries.1 ∙ log_of_words es in
    let entry : (get_or c.args.copy.now (2 * j + 1) 0, get_or c.args.copy.now (2 * j + 1 + 1) 0) ≡ get_or es j (0, 0) = rw (addr, value) refl in
    let added : c.put.new.self.entries ≡ put_pair c.loop-j.log.entries (get_or es j (0, 0)).0 (get_or es j (0, 0)).1 =
    ap (λ (p : WriteSet). p.entries) c.put.ensures ∙ ap (λ (e : ℕ × ℕ). put_pair c.loop-j.log.entries e.0 e.1) entry
    in
    record {
      entries = added ∙ ap (λ (ds : List (ℕ × ℕ)). put_pair ds (get_or es j (0, 0)).0 (get_or es j (0, 0)).1) (c.loop-j.invariant.entries ∙ ap (λ (ds : List (ℕ × ℕ)). put_all first (drop from (take j ds))) all) ∙ sym (put_part first es from j (omega arith) here)
          ∙ ap (λ (ds : List (ℕ × ℕ)). put_all first (drop from (take (j + 1) ds))) (sym all);
      room = ap (λ (p : WriteSet). p.room) c.put.ensures ∙ c.loop-j.invariant.room;
    }
