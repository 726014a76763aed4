-- The meaning of scripts keeps the rules of a work. `impl Work for Scripts` cites these lemmas as
-- its laws, and an impl may cite specs/ alone.
use Rattle.std.proofs.Common.{◌≡◌, ℕ, inl, inr, zero, suc, ◌*◌, ◌≤◌, true, leb, ◌&&◌, refl, sym, ◌∙◌, ap, subst, arith, List, [], ◌∷◌, length, take, replicate, get_or, Ok, Err, length-take, ◌+◌}
use Rattle.std.proofs.lemmas.Bool.{ltb-true, cases_lt}
use Rattle.of_mem.specs.declared.plot.TheConstants.{MOST_BLOCKS}
use Rattle.of_mem.specs.Programs.{program_answer, memory_after}
use Rattle.of_mem.specs.Stores.{CellStore, StandsForStore}
use Rattle.of_mem.specs.Meaning.{IsSoundMeaning, HasRoom}
use Rattle.of_mem.specs.declared.work.TheConstants.{MOST_WRITES}
use Rattle.of_mem.specs.ProgramWork.{IsReplyTo}
use Rattle.of_mem.specs.ProgramTouches.{few_writes}
use Rattle.of_mem.proofs.BucketPlaces.{few_behind, bucket_places, most_buckets}
use Rattle.of_mem.proofs.Standing.{empty_stands, stands_from}
use Rattle.of_mem.proofs.Sounds.{sound}
use Rattle.of_script.specs.declared.instr.TheConstants.{MOST_INSTRS, REGISTERS}
use Rattle.of_script.proofs.Numbers.{both}
use Rattle.of_store.specs.declared.store.TheConstants.{MOST_ORDERED_BLOCKS}
use Rattle.of_store.specs.Store.{Store, ScriptOutcome, empty_store}
use Rattle.of_store.proofs.Keeps.{empty_is}
use Rattle.of_eval.specs.declared.scripts.Scripts.{Scripts}
use Rattle.of_eval.specs.Stored.{cell_store, IsStored}
use Rattle.of_eval.specs.Shapes.{reply_cells}
use Rattle.of_eval.specs.Words.{words_outcome, reply_to}
use Rattle.of_eval.specs.ScriptPrograms.{script_program}
use Rattle.of_eval.specs.Scripts.{store_at, scripts_data_cells, StandsForSome, LawfulCells, is_success, script_reads, instr_reads, words_read, scripts_meaning}
use Rattle.of_script.specs.Reading.{instr_at}
use Rattle.of_eval.specs.ScriptRuns.{DoesOutcome, LeadsToOutcome, reply_behind, words_run, words_answer}
use Rattle.of_eval.specs.MaskLaws.{reply_fits}
use Rattle.of_eval.specs.ScriptsStay.{words_stay, words_only}
use Rattle.of_eval.specs.FewWrites.{script_few}
use Rattle.of_eval.specs.ShapeLaws.{code_some}

-- a memory in which every cell is 0 stands for the empty store
pub empty_is_stored : (o blocks : ℕ) → blocks ≤ MOST_BLOCKS → (m : ℕ → ℕ) → ((a : ℕ) → m a ≡ 0)
    → IsStored o blocks m (empty_store blocks)
empty_is_stored o blocks few m z = record {
  state = empty_is blocks few;
  stands = subst (StandsForStore o blocks m) same (empty_stands o blocks m z);
}
  where
    none : (q n : ℕ) → ◌≡◌ {A = List ℕ} [] (get_or (replicate n []) q [])
    none q zero = refl
    none zero (suc n) = refl
    none (suc q) (suc n) = none q n

    same : ◌≡◌ {A = CellStore}
        (record {
          registers = replicate REGISTERS 0;
          map = (empty_store blocks).keys;
          queues = λ q. [];
          room = blocks;
        }) (cell_store (empty_store blocks))
    same =
        λ i. record {
          registers = replicate REGISTERS 0;
          map = (empty_store blocks).keys;
          queues = λ q. none q 4 i;
          room = blocks;
        }

module _ (o blocks : ℕ) (few : blocks ≤ MOST_BLOCKS) where
  abbrev first : List ℕ → List ℕ
  first op = take MOST_INSTRS op

  first_few : (op : List ℕ) → (length (first op) ≤ MOST_INSTRS) × (length (first op) ≤ length op)
  first_few op =
      (omega (arith, length-take MOST_INSTRS op), omega (arith, length-take MOST_INSTRS op))

  pub script_run : (op : List ℕ) (m : ℕ → ℕ) (s : Store) → IsStored o blocks m s
      → DoesOutcome o blocks (length (first op)) (script_program o blocks op) m []
      (words_outcome s (first op))
  script_run op m s h = words_run o blocks few (length (first op)) (first op) [] m s h

  -- if the reply is a success, the cells still stand for a store
  success : (n : ℕ) (x : ScriptOutcome) (m : ℕ → ℕ) → LeadsToOutcome o blocks x m
      → is_success (reply_cells (reply_to n (reply_behind [] x))) ≡ true → StandsForSome o blocks m
  success n (Ok e) m h k = (e.0, h)
  success n (Err p) m h k = absurd (let c = code_some p.1 in omega (arith, c.0, ltb-true _ _ k))

  script_leads : (m : ℕ → ℕ) (op : List ℕ) → StandsForSome o blocks m
      → is_success (program_answer (script_program o blocks op) m) ≡ true
      → StandsForSome o blocks (memory_after (script_program o blocks op) m)
  script_leads m op l k =
      let r = script_run op m l.0 l.1 in
      success (length (first op)) (words_outcome l.0 (first op))
      (memory_after (script_program o blocks op) m) r.leads (ap is_success (sym r.reply) ∙ k)

  script_replies : (m : ℕ → ℕ) (op : List ℕ) → StandsForSome o blocks m
      → IsReplyTo op (program_answer (script_program o blocks op) m)
  script_replies m op l =
      let r = script_run op m l.0 l.1 in
      subst (IsReplyTo op) (sym r.reply)
      (reply_fits op (first op) (words_outcome l.0 (first op)) (first_few op).0 (first_few op).1
      (words_answer (first op) l.0 l.1.state))

  taken_read : (n : ℕ) (ws : List ℕ) → words_read ws ≡ true → words_read (take n ws) ≡ true
  taken_read zero ws e = refl
  taken_read (suc n) [] e = refl
  taken_read (suc n) (w ∷ ws) e =
      let b = both (instr_reads (instr_at w)) (words_read ws) e in rw (b.0) (taken_read n ws b.1)

  all_read : (op : List ℕ) → script_reads op ≡ true → words_read (first op) ≡ true
  all_read op e =
      taken_read MOST_INSTRS op
      (both (leb (length op) MOST_INSTRS) (words_read op)
      (both (leb 1 (length op)) (leb (length op) MOST_INSTRS && words_read op) e).1).1

pub scripts_sound : (w : Scripts)
    → IsSoundMeaning (scripts_meaning w) (LawfulCells w) (w.callers * (MOST_INSTRS + 2))
    (scripts_data_cells w)
scripts_sound w =
    sound is_success script_reads (script_program (store_at w) w.blocks)
    (StandsForSome (store_at w) w.blocks) (store_at w) (scripts_data_cells w)
    (record {
      zeros =
          λ m z. (
            empty_store w.blocks,
            empty_is_stored (store_at w) w.blocks w.few_blocks m z,
          );
      leads = λ m op l k. script_leads (store_at w) w.blocks w.few_blocks m op l k;
      lawful_from =
          λ m n same l. (
            l.0,
            record {
              state = l.1.state;
              stands = stands_from (store_at w) w.blocks m n same (cell_store l.0) l.1.stands;
            },
          );
      stays =
          λ op. words_stay (store_at w) w.blocks (length (take MOST_INSTRS op))
          (take MOST_INSTRS op) [];
      inside = λ m op l. (script_run (store_at w) w.blocks w.few_blocks op m l.0 l.1).inside;
      few = λ m op l.
          elim (cases_lt MOST_ORDERED_BLOCKS w.blocks) [
            | inl many ↦
                inr
                (few_writes MOST_WRITES (script_program (store_at w) w.blocks op) m
                (script_few (store_at w) w.blocks many op))
            | inr few ↦ inl (omega (arith, w.few_callers, few, few_behind w.blocks few))
          ];
      replies = λ m op l. script_replies (store_at w) w.blocks w.few_blocks m op l;
      reads_only =
          λ op e. words_only (store_at w) w.blocks (length (take MOST_INSTRS op))
          (take MOST_INSTRS op) [] (all_read (store_at w) w.blocks w.few_blocks op e);
    })

pub scripts_fit : (w : Scripts) → HasRoom w.callers (scripts_data_cells w)
scripts_fit w = record {
  some = w.some_callers;
  few = w.few_callers;
  own = omega arith;
  small = omega
      (arith, w.few_callers, w.few_blocks, bucket_places w.blocks, most_buckets w.blocks);
}
