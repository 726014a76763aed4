-- The invariant speaks of no word behind the table's own.
use Rattle.std.proofs.Common.{◌≡◌, ℕ, ◌+◌, ◌*◌, ◌<◌, ◌≤◌, inl, List, get_or, set, sym, ap, subst, arith, length-set}
use Rattle.std.proofs.lemmas.List.{get_or-set_other}
use Rattle.of_cell.specs.Words.{seq_of}
use Rattle.of_cell.proofs.Places.{row_within}
use Rattle.of_core.specs.Table.{most_entries, Setup, words_before_members, durable_at, log_at, script_word_at, current_word, request_of, data_word, log_word_of, script_word}
use Rattle.of_core.specs.TableMoment.{Moment, TableStart}
use Rattle.of_core.specs.WordsMatch.{WordsMatchHistory, IsLastOpen, DataCellsMatchState, DurableWordsMatch, IsRequest}
use Rattle.of_core.specs.Invariant.{MeetsInvariant, IsLoaded}
use Rattle.of_core.proofs.Touches.{Touches, open_of, data_same, durable_same, kinds_same, moves_of, shared_of}
use Rattle.of_core.proofs.Stability.{at_stable, heard_as, loaded_stable, log_in}
use Rattle.of_core.proofs.Ordering.{order_same}

module _ (S : Setup) (Lawful : List ℕ → Type 0) (B : TableStart) (w : Moment) (g : MeetsInvariant S Lawful B w) (c v : ℕ) (far : words_before_members S ≤ c) where
  abbrev vs : List ℕ
  vs = set w.words c v

  below : (x : ℕ) → x < words_before_members S → get_or vs x 0 ≡ get_or w.words x 0
  below x l = get_or-set_other w.words c x v 0 (omega arith)

  current_same : current_word vs ≡ current_word w.words
  current_same = below 0 (omega arith)

  req_same : (j : ℕ) → j < S.callers → request_of vs j ≡ request_of w.words j
  req_same j l = below (j + 1) (omega arith)

  cell_same : (a : ℕ) → a < S.cells → data_word S vs a ≡ data_word S w.words a
  cell_same a l = below (S.callers + 1 + a) (omega arith)

  log_same : (j y : ℕ) → j < S.callers → y < 2 * most_entries S + 1 → log_word_of S vs j y ≡ log_word_of S w.words j y
  log_same j y l u = below (log_at S j y) (omega (arith, log_in S j y l u))

  script_same : (j y : ℕ) → j < S.callers → y < S.instrs + 1 → script_word S vs j y ≡ script_word S w.words j y
  script_same j y l u = below (script_word_at S j y) (let r : j * (S.instrs + 1) + (S.instrs + 1) ≤ S.callers * (S.instrs + 1) = row_within j S.callers (S.instrs + 1) l in omega arith)

  touches : (i : ℕ) → Touches S B i w.words vs w.batches
  touches i = record {
    room = length-set w.words c v;
    current_word = current_same;
    requests = λ j l q. inl (req_same j l);
    logs = λ j l q y u. log_same j y l u;
    changes = λ a l. inl (cell_same a l);
    rise = λ x l. omega (arith, below x (omega arith));
    durs = λ x l. below (durable_at S x) (omega arith);
    log_how = λ j y l u. inl (log_same j y l u);
    script_of = λ j y l u. inl (script_same j y l u);
    announcements = λ j l. inl (script_same j S.instrs l (omega arith));
  }

  open_same : IsLastOpen B w.words → IsLastOpen B vs
  open_same = open_of (touches 0) g.core.shared req_same

  data_cells : DataCellsMatchState S B vs w.batches
  data_cells = data_same (touches 0) g.core.shared cell_same open_same

  durable : DurableWordsMatch S B vs w.batches
  durable = durable_same (touches 0) g.core.shared cell_same open_same (λ k l u j o q y v. log_same j y (rw (← o) (g.core.shared.counted.owners k l u)) v)

  shared : WordsMatchHistory S Lawful B vs w.batches
  shared = shared_of (touches 0) g.core.shared data_cells durable
      (heard_as S B w.words vs w.batches (λ j l. script_same j S.instrs l (omega arith)) (ap seq_of current_same) (λ j l. rw (log_same j 0 l (omega arith)) (g.core.shared.heard.counts j l)) g.core.shared.heard)
      (kinds_same (touches 0) g.core.shared (λ j l. subst (λ (y : ℕ). IsRequest B w.words w.batches j y) (sym (req_same j l)) (g.core.shared.kinds.requests j l)) log_same)

  pub beside_stays : (e : ℕ × ℕ) → IsLoaded S B w.words w.batches e → IsLoaded S B vs w.batches e
  beside_stays e l = loaded_stable S Lawful B 0 w.words w.batches vs w.batches (moves_of (touches 0) g.core.shared) g.core.shared shared.kinds e l

  pub beside_kept : MeetsInvariant S Lawful B (record w { words = vs })
  beside_kept = record {
    core = record {
      shared = shared;
      members = g.core.members;
      loaded = λ k d l. beside_stays (get_or w.loaded k d) (g.core.loaded k d l);
      each = λ j n l q. at_stable S Lawful B (j + 1) w.words w.batches vs w.batches (moves_of (touches (j + 1)) g.core.shared) g.core.shared j l (λ z. omega arith) n n.place (g.core.each j n l q);
    };
    within = g.within;
    late = g.late;
    order = order_same S B w vs g.order (ap seq_of current_same) (omega (arith, ap seq_of (below (durable_at S 0) (omega arith))));
  }
