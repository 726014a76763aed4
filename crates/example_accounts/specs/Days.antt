-- What a day saves: one history that has each answered transfer, and all the money. The next day
-- goes on from what the day before has saved.
use Rattle.std.specs.Prelude.{◌≡◌, ℕ, ◌+◌, ◌<◌, List, length, map, drop}
use Rattle.std.specs.declared.vec.Vec.{Vec}
use Rattle.std.proofs.Common.{get_or, replicate, take, Global}
use Rattle.of_mem.specs.ProgramWork.{memory_of}
use Rattle.of_core.specs.declared.place.Outcome.TheVariants.{Spent}
use Rattle.of_core.specs.Machine.{Call}
use Rattle.of_row.specs.Views.{EndedCall}
use Rattle.of_cells.specs.declared.memory.CellMemory.{CellMemory}
use Rattle.of_cells.specs.History.{IsSerial, cells_after, StandsInOrder, ExplainsEnd}
use Rattle.of_cells.specs.Handles.{IsCellHandle, IsSame, number_of_handle, made_by}
use Rattle.of_cells.specs.Memories.{IsFrom, HasMadeOf}
use Rattle.of_cells.specs.declared.saved.SavedCells.{SavedCells}
use Rattle.of_cells.specs.Saving.{IsSavedCells, saved_cells, saved_ticket, saved_work}
use Rattle.example_accounts.specs.declared.accounts.Accounts.{Accounts}
use Rattle.example_accounts.specs.declared.transfer.Transfer.{Transfer}
use Rattle.example_accounts.specs.declared.teller.Answer.{Answer}
use Rattle.example_accounts.specs.declared.teller.Teller.{Teller}
use Rattle.example_accounts.specs.declared.day.Log.{Log}
use Rattle.example_accounts.specs.declared.day.Evening.{Evening}
use Rattle.example_accounts.specs.Accounts.{transfer_words, cell_count, balance_in, HasAllMoney}
use Rattle.example_accounts.specs.Meaning.{accounts_meaning, LawfulCells}

-- the call of a transfer, with the outcome that the answer has
abbrev pub ended_call : Answer → EndedCall
ended_call a = record { op = transfer_words a.transfer; outcome = a.outcome }

abbrev pub transfer_of : Answer → Transfer
transfer_of a = a.transfer

-- the answers are those to the first transfers of the job, in the job's order
abbrev pub FollowsJob : List Answer → (job : List Transfer) → Type 0
FollowsJob answers job = map transfer_of answers ≡ take (length answers) job

-- the teller has a handle, its answers are those of the handle's calls, and they are those to the
-- first transfers of its job
pub record Serves (t : Teller) : Type 0 where
  pub handle : IsCellHandle accounts_meaning t.handle
  pub answers : made_by t.handle ≡ map ended_call t.answers.items
  pub follows : FollowsJob t.answers.items t.job.items

-- t and u are the same teller at different times: it has the same handle and the same job
pub record IsSameTeller (t u : Teller) : Type 0 where
  pub handle : IsSame t.handle u.handle
  pub job : u.job ≡ t.job

-- u is the same teller as t, and its answers are those of its handle's calls (`Serves`)
pub record HasWorked (t u : Teller) : Type 0 where
  pub serves : Serves u
  pub same : IsSameTeller t u

-- The list has `count` tellers. The teller with the index `place` serves its job with a handle of
-- the memory. The last teller of the list has number 0, and the first one has the greatest number.
pub record IsSeatedAt (m : CellMemory Accounts) (count place : ℕ) (t : Teller) : Type 0 where
  pub serves : Serves t
  pub from : IsFrom m t.handle
  pub number : number_of_handle t.handle + place + 1 ≡ count

abbrev pub AreSeated : CellMemory Accounts → (count : ℕ) → List Teller → Type 0
AreSeated m count ts = (p : ℕ) (d : Teller) → p < length ts → IsSeatedAt m count p (get_or ts p d)

-- the log is that of caller n: the caller's ended calls in the memory are the answers of the log,
-- and these follow the log's job
pub record IsLoggedAt (m : CellMemory Accounts) (n : ℕ) (l : Log) : Type 0 where
  pub number : l.number ≡ n
  pub made : HasMadeOf m n (map ended_call l.answers.items)
  pub follows : FollowsJob l.answers.items l.job.items

abbrev pub AreLogged : CellMemory Accounts → List Log → Type 0
AreLogged m ls = (p : ℕ) (d : Log) → p < length ls → IsLoggedAt m p (get_or ls p d)

-- if the calls are made one after the other on a table whose cells have these numbers, each gives
-- the reply that it has
abbrev pub IsHistory : Accounts → (before : List ℕ) → List Call → Type 0
IsHistory w before calls = IsSerial (accounts_meaning w) before calls

-- the balance of an account after these calls, made one after the other
abbrev pub balance_after : Accounts → (before : List ℕ) → List Call → (account : ℕ) → ℕ
balance_after w before calls a =
    balance_in w (memory_of (cells_after (accounts_meaning w) before calls)) a

abbrev pub no_answer : Answer
no_answer = record {
  transfer = record { from = 0; to = 0; amount = 0 };
  outcome = Spent 0;
}

-- The log is that of the caller n, which had made `before n` calls before the day. Its answers are
-- those to the first transfers of its job, in their order. The history has each answered transfer
-- with its reply, as the caller's call after those `before n`. It has no transfer for which no
-- sequence was left.
pub record HasLog (calls : List Call) (before : ℕ → ℕ) (n : ℕ) (l : Log) : Type 0 where
  pub number : l.number ≡ n
  pub follows : FollowsJob l.answers.items l.job.items
  pub each : (k : ℕ) → k < length l.answers.items →
      let a : Answer = get_or l.answers.items k no_answer in
      ExplainsEnd calls n (before n + k + 1) (transfer_words a.transfer) a.outcome

abbrev pub job_of_teller : Teller → Vec Transfer Global
job_of_teller t = t.job

abbrev pub job_of : Log → Vec Transfer Global
job_of l = l.job

-- a memory may go on from what is saved
abbrev pub IsSavedBank : SavedCells Accounts → Type 0
IsSavedBank d =
    IsSavedCells (λ (w : Accounts). w.callers) cell_count accounts_meaning LawfulCells d

-- What a day saves, if its tellers were given these jobs. At the beginning of the day the cells of
-- the memory had the numbers `before`, and the callers had made as many calls as `tickets` says.
pub record IsEvening (w : Accounts) (before : List ℕ) (tickets : ℕ → ℕ)
    (given : List (Vec Transfer Global)) (e : Evening) : Type 0 where
  pub saved : IsSavedBank e.saved
  pub work : saved_work e.saved ≡ w
  pub cells : e.cells.items ≡ saved_cells e.saved
  pub size : length e.cells.items ≡ cell_count w
  -- all accounts together have the money that account 0 had at first
  pub money : HasAllMoney w (memory_of e.cells.items)
  -- one history gives the balances; it has the transfers of all logs
  pub calls : List Call
  pub history : IsHistory w before calls
  pub order : StandsInOrder calls
  pub balances : (a : ℕ) → a < w.accounts
      → balance_in w (memory_of e.cells.items) a ≡ balance_after w before calls a
  pub logs : (n : ℕ) (d : Log) → n < length e.logs.items
      → HasLog calls tickets n (get_or e.logs.items n d)
  -- there is a log for each job, in the order of the jobs
  pub jobs : map job_of e.logs.items ≡ given

-- what the first day saves: it began with zeros in all cells, and no caller had made a call
abbrev pub IsFirstEvening : Accounts → List (Vec Transfer Global) → Evening → Type 0
IsFirstEvening w given e = IsEvening w (replicate (cell_count w) 0) (λ n. 0) given e

-- `rest` has of each job the transfers that are not in the saved memory
pub record AreLeft (e : Evening) (rest : List (Vec Transfer Global)) : Type 0 where
  pub size : length rest ≡ length e.logs.items
  pub each : (n : ℕ) (v : Vec Transfer Global) (d : Log) → n < length e.logs.items
      → (get_or rest n v).items ≡ drop (saved_ticket e.saved n) (get_or e.logs.items n d).job.items

-- What the next day saves. It began with the numbers and the calls that the evening before has
-- saved, and the tellers were given the transfers of their jobs that were not in the saved memory.
pub record IsNextEvening (w : Accounts) (e next : Evening) : Type 0 where
  pub rest : List (Vec Transfer Global)
  pub left : AreLeft e rest
  pub evening : IsEvening w e.cells.items (saved_ticket e.saved) rest next
