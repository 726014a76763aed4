-- What a trace prints: the plain names of steps and of words, and what a step found and left in a
-- word.
use Rattle.std.specs.Prelude.{ℕ, List, ◌++◌, codes, decimal}
use Rattle.of_cell.specs.Words.{seq_of, payload_of}
use Rattle.of_cell.specs.Cells.{data_cell}
use Rattle.of_core.specs.declared.place.Place.{Place}
use Rattle.of_core.specs.declared.place.Place.TheVariants.{Idle, TryCurrent, TryRequest, TryCell, StoreScript, StoreAnnouncement, LoadCurrent, LoadRequest, CopyLog, LookAgain, LoadOwnTicket, LoadShape, LoadReply, LoadAnnouncement, LoadTicket, LoadScript, LoadCell, RaiseOld, StoreLog, RaiseLog, StoreRequest, RaiseRequest, ExchangeCurrent, RaiseCurrent, LoadTarget, ExchangeTarget, ReloadTarget, RaiseTarget, CloseRequest, RaiseClosed}
use Rattle.of_plan.specs.Plan.{Plan, data_cells}
use Rattle.of_play.specs.declared.names.CellUse.{CellUse}
use Rattle.of_play.specs.declared.names.CellUse.TheVariants.{Ticket, Shape, Reply, Register, Taken, Free, Keys, Bucket, Front, Back, Length, Block}
use Rattle.of_play.specs.declared.names.ShownCell.{ShownCell}
use Rattle.of_play.specs.declared.names.ShownCell.TheVariants.{Current, Request, Data, Log}
use Rattle.of_play.specs.declared.names.ShownWord.{ShownWord}
use Rattle.of_play.specs.declared.names.ShownWord.TheVariants.{Now, Durable, Script, Announcement, Members}
use Rattle.of_play.specs.declared.trace_text.Change.{Change}
use Rattle.of_play.specs.Names.{cell_use_at, word_at_place}

-- the plain name of the step that comes next at a place
abbrev pub step_text : Place → List ℕ
step_text Idle = codes "nothing"
step_text TryCurrent = codes "try current"
step_text TryRequest = codes "try request"
step_text (TryCell a) = codes "try cell"
step_text (StoreScript j) = codes "store script"
step_text StoreAnnouncement = codes "store announcement"
step_text LoadCurrent = codes "load current"
step_text LoadRequest = codes "load request"
step_text (CopyLog x) = codes "copy log"
step_text LookAgain = codes "look again"
step_text LoadOwnTicket = codes "load own ticket"
step_text LoadShape = codes "load shape"
step_text (LoadReply j) = codes "load reply"
step_text LoadAnnouncement = codes "load announcement"
step_text LoadTicket = codes "load ticket"
step_text (LoadScript j) = codes "load script"
step_text (LoadCell a) = codes "load cell"
step_text RaiseOld = codes "raise old"
step_text (StoreLog x) = codes "store log"
step_text (RaiseLog x) = codes "raise log"
step_text StoreRequest = codes "store request"
step_text RaiseRequest = codes "raise request"
step_text ExchangeCurrent = codes "exchange current"
step_text RaiseCurrent = codes "raise current"
step_text (LoadTarget j) = codes "load target"
step_text (ExchangeTarget j f) = codes "exchange target"
step_text (ReloadTarget j) = codes "reload target"
step_text (RaiseTarget j f) = codes "raise target"
step_text CloseRequest = codes "close request"
step_text RaiseClosed = codes "raise closed"

-- the name of what a data cell holds
abbrev pub cell_use_text : CellUse → List ℕ
cell_use_text (Ticket i) = codes "ticket of " ++ decimal i
cell_use_text (Shape i) = codes "shape of " ++ decimal i
cell_use_text (Reply i j) = codes "reply " ++ decimal j ++ codes " of " ++ decimal i
cell_use_text (Register r) = codes "register " ++ decimal r
cell_use_text Taken = codes "blocks taken"
cell_use_text Free = codes "free list"
cell_use_text Keys = codes "number of keys"
cell_use_text (Bucket b) = codes "bucket " ++ decimal b
cell_use_text (Front q) = codes "front of queue " ++ decimal q
cell_use_text (Back q) = codes "back of queue " ++ decimal q
cell_use_text (Length q) = codes "length of queue " ++ decimal q
cell_use_text (Block b f) = codes "field " ++ decimal f ++ codes " of block " ++ decimal b

-- the name of a cell, if there are `n` callers; the name of a data cell has its number and its use
abbrev pub cell_name_text : (n : ℕ) → ShownCell → List ℕ
cell_name_text n Current = codes "current"
cell_name_text n (Request i) = codes "request " ++ decimal i
cell_name_text n (Data a) =
    codes "cell " ++ decimal (data_cell n a)
    ++ codes " (" ++ cell_use_text (cell_use_at n a) ++ codes ")"
cell_name_text n (Log i x) = codes "log " ++ decimal x ++ codes " of " ++ decimal i

-- the name of a word, if there are `n` callers
abbrev pub word_text : (n : ℕ) → ShownWord → List ℕ
word_text n (Now c) = cell_name_text n c
word_text n (Durable c) = codes "durable " ++ cell_name_text n c
word_text n (Script i x) = codes "script word " ++ decimal x ++ codes " of " ++ decimal i
word_text n (Announcement i) = codes "announcement " ++ decimal i
word_text n Members = codes "members"

-- the text of a word as a pair: its sequence and its payload
abbrev pub pair_text : ℕ → List ℕ
pair_text v = codes "(" ++ decimal (seq_of v) ++ codes "," ++ decimal (payload_of v) ++ codes ")"

-- the text of a word: a script word is a number, and any other a pair
abbrev pub word_value_text : ShownWord → ℕ → List ℕ
word_value_text (Now c) v = pair_text v
word_value_text (Durable c) v = pair_text v
word_value_text (Script i x) v = decimal v
word_value_text (Announcement i) v = pair_text v
word_value_text Members v = decimal v

-- a word by its name, with what was found in it and what was left in it
abbrev pub named_change : (n : ℕ) → ShownWord → (found left : ℕ) → List ℕ
named_change n w found left =
    word_text n w ++ codes ": " ++ word_value_text w found ++ codes " -> " ++ word_value_text w left

-- the word with this index in a plan's table
abbrev pub plan_word : Plan → (place : ℕ) → ShownWord
plan_word p w = word_at_place p.callers (data_cells p.callers p.blocks) w

-- a word of a plan's table by its name, with what was found in it and what was left in it
abbrev pub change_text : Plan → Change → List ℕ
change_text p c = named_change p.callers (plan_word p c.word) c.found c.left
