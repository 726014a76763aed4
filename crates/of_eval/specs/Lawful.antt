-- When data cells, with the callers' own cells among them, stand for a store. A memory m is a
-- function from addresses to numbers.
use Rattle.std.specs.Prelude.{◌≡◌, ◌≢◌, ℕ, ◌≤◌, ◌<◌, nat_lt, if◌then◌else◌, map}
use Rattle.std.specs.List.{range_with_len}
use Rattle.of_mem.specs.declared.work.RawReply.{RawReply}
use Rattle.of_mem.specs.Places.{base_of, ticket_cell_at, shape_at, reply_at}
use Rattle.of_script.specs.declared.instr.Reply.{Reply}
use Rattle.of_script.specs.declared.instr.TheConstants.{MOST_INSTRS}
use Rattle.of_store.specs.Store.{Store}
use Rattle.of_eval.specs.Shapes.{IsHeldBy}
use Rattle.of_eval.specs.Stored.{IsStored}

-- number j of a caller's reply, as its cell holds it; 0 if the caller has no such cell
abbrev pub reply_number : (instrs : ℕ) → (ℕ → ℕ) → (caller j : ℕ) → ℕ
reply_number instrs m c j = if nat_lt j instrs then m (reply_at instrs c j) else 0

-- the reply in a caller's own cells, as they hold it: the shape and the numbers
abbrev pub reply_in : (instrs : ℕ) → (ℕ → ℕ) → (caller : ℕ) → RawReply
reply_in instrs m c = record {
  shape = m (shape_at instrs c);
  values = map (reply_number instrs m c) (range_with_len 0 MOST_INSTRS);
}

-- the caller's own cells hold a whole reply to a script of at most `instrs` instructions
pub record OwnCellsHoldReply (instrs : ℕ) (m : ℕ → ℕ) (caller : ℕ) : Type 0 where
  pub reply : Reply
  pub held : IsHeldBy (reply_in instrs m caller) reply
  pub few : reply.len ≤ instrs

-- a caller's own cells have no shape if there was no call, and hold a reply if there was one
pub record OwnCellsAreSound (instrs : ℕ) (m : ℕ → ℕ) (caller : ℕ) : Type 0 where
  pub none : m (ticket_cell_at instrs caller) ≡ 0 → m (shape_at instrs caller) ≡ 0
  pub some : m (ticket_cell_at instrs caller) ≢ 0 → OwnCellsHoldReply instrs m caller

-- the data cells stand for the store s, and the own cells of every caller are sound
pub record DataCellsStandFor (callers instrs blocks : ℕ) (m : ℕ → ℕ) (s : Store) : Type 0 where
  pub own : (c : ℕ) → c < callers → OwnCellsAreSound instrs m c
  pub stored : IsStored (base_of callers instrs) blocks m s
