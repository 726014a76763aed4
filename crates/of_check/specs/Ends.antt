-- Whether an image is where a report ends.
use Rattle.std.specs.Prelude.{◌≡◌, ◌≢◌, ℕ, ◌+◌, ◌<◌, List, [], ◌∷◌, if◌then◌else◌, Option, Some, None, IfSome}
use Rattle.of_script.specs.declared.instr.Reply.{Reply as TheReply}
use Rattle.of_script.specs.declared.instr.TheConstants.{MOST_INSTRS}
use Rattle.of_store.specs.Store.{Reply}
use Rattle.of_store.specs.Replies.{reply_value_of}
use Rattle.of_eval.specs.Shapes.{IsHeldBy}
use Rattle.of_eval.specs.Lawful.{reply_in}
use Rattle.of_plan.specs.Plan.{Plan}
use Rattle.of_plan.specs.Report.{Entry, Report, Start, entries_of, finished_of}
use Rattle.of_report.specs.declared.report.Entry.{Entry as TheEntry}
use Rattle.of_report.specs.Report.{entry_value}
use Rattle.of_report.specs.Image.{Image, image_number, image_ticket}
use Rattle.of_check.specs.declared.ends.LeftRule.{LeftRule}
use Rattle.of_check.specs.declared.ends.LeftRule.TheVariants.{Callers, Blocks, Sequence, Ticket, Reply as ReplyRule, Store}

-- ---- the last call that a caller announced

-- the last entry of the list that was announced; `before` if none was announced
abbrev pub last_announced : (before : Option Entry) → List Entry → Option Entry
last_announced before [] = before
last_announced before (e ∷ es) = last_announced (if e.announced then Some e else before) es

-- the last announced entry of a caller in a report, if there is one
abbrev pub last_call : Report → (caller : ℕ) → Option Entry
last_call r c = last_announced None (entries_of r c)

-- an entry in the form that contracts see, for an entry as the code has it; None for None
abbrev pub entry_in : Option TheEntry → Option Entry
entry_in None = None
entry_in (Some e) = Some (entry_value e)

-- a caller's ticket after its last announced call; if it has announced none, the ticket is still
-- `before`
abbrev pub ticket_after : (before : ℕ) → Option Entry → ℕ
ticket_after before None = before
ticket_after before (Some e) = e.index + 1

-- ---- what an image has of this call

-- The ticket of a caller in the image is the ticket of its last announced entry. If the report has
-- no announced entry of the caller, it is the caller's ticket at the start.
abbrev pub HasTicket : Start → Report → Image → (caller : ℕ) → Type 0
HasTicket s r i c = image_ticket i c ≡ ticket_after (finished_of s c) (last_call r c)

-- a caller's own cells hold this reply
pub record CellsHoldReply (i : Image) (c : ℕ) (response : Reply) : Type 0 where
  pub reply : TheReply
  pub held : IsHeldBy (reply_in MOST_INSTRS (image_number i) c) reply
  pub is : reply_value_of reply ≡ response

-- the caller's own cells hold the reply of its last announced entry, if the report has one
abbrev pub HasReply : Report → Image → (caller : ℕ) → Type 0
HasReply r i c = IfSome (last_call r c) (λ e. CellsHoldReply i c e.reply)

-- a caller's ticket and reply in the image are those of its last announced entry
pub record HoldsLastCall (s : Start) (r : Report) (i : Image) (c : ℕ) : Type 0 where
  pub ticket : HasTicket s r i c
  pub reply : HasReply r i c

-- The image has the plan's callers and blocks. It is the one at which the report ends: it has the
-- report's sequence and store, and the callers' own cells hold what the report says of their last
-- calls.
pub record EndsAt (p : Plan) (s : Start) (r : Report) (i : Image) : Type 0 where
  pub callers : i.row.callers ≡ p.callers
  pub blocks : i.row.blocks ≡ p.blocks
  pub seq : i.seq ≡ r.seq
  pub last_calls : (c : ℕ) → c < p.callers → HoldsLastCall s r i c
  pub store : i.store ≡ r.store

-- ---- what is wrong with an image

-- the image has the plan's callers and blocks, and the report's sequence
pub record HasSizes (p : Plan) (r : Report) (i : Image) : Type 0 where
  pub callers : i.row.callers ≡ p.callers
  pub blocks : i.row.blocks ≡ p.blocks
  pub seq : i.seq ≡ r.seq

-- `Wrong` holds for this caller, and each caller before it has the right ticket and reply in the
-- image
pub record BreaksCall (p : Plan) (s : Start) (r : Report) (i : Image) (caller : ℕ)
    (Wrong : Type 0) : Type 0 where
  pub there : caller < p.callers
  pub before : (c : ℕ) → c < caller → HoldsLastCall s r i c
  pub breaks : Wrong

-- the ticket or the reply of this caller is wrong in the image, and each caller before it has the
-- right ones
abbrev pub BreaksCalls : Plan → Start → Report → Image → LeftRule → Type 0
BreaksCalls p s r i (Ticket c) = BreaksCall p s r i c (HasTicket s r i c → ⊥)
BreaksCalls p s r i (ReplyRule c) =
    BreaksCall p s r i c (HasTicket s r i c × (HasReply r i c → ⊥))
BreaksCalls p s r i rule = ⊥

-- the image breaks this rule, and none of the rules above it in this list
abbrev pub BreaksLeft : Plan → Start → Report → Image → LeftRule → Type 0
BreaksLeft p s r i Callers = i.row.callers ≢ p.callers
BreaksLeft p s r i Blocks = (i.row.callers ≡ p.callers) × (i.row.blocks ≢ p.blocks)
BreaksLeft p s r i Sequence =
    (i.row.callers ≡ p.callers) × (i.row.blocks ≡ p.blocks) × (i.seq ≢ r.seq)
BreaksLeft p s r i (Ticket c) = HasSizes p r i × BreaksCalls p s r i (Ticket c)
BreaksLeft p s r i (ReplyRule c) = HasSizes p r i × BreaksCalls p s r i (ReplyRule c)
BreaksLeft p s r i Store =
    HasSizes p r i × ((c : ℕ) → c < p.callers → HoldsLastCall s r i c) × (i.store ≢ r.store)
