use Rattle.std.proofs.Common.{ap, refl, true}
use Rattle.example_accounts.specs.Accounts.{HasAllMoney, cell_count, first_cell, transferring, is_no_transfer}
use Rattle.example_accounts.specs.Sound.{are_sound}
use Rattle.example_accounts.proofs.Walks.{part_of, walk_gives, walk_needs}
use Rattle.of_mem.specs.ProgramWork.{memory_of}
use Rattle.example_accounts.proofs.accounts.AccountsWork.run_on.Goals as goal

pub transfer-requires : goal.transfer-requires
transfer-requires c =
    let w = c.args.self.now in
    record {
      fits = c.requires.cells;
      memory = memory_of c.requires.agrees.0;
      money = c.requires.agrees.2;
      part = λ x v. part_of (λ r. true) is_no_transfer (transferring w) (HasAllMoney w) (first_cell w) (cell_count w) (are_sound w) c.args.part.now c.requires.agrees c.requires.cells c.requires.empty x v;
    }

pub returns-in-Ok-clause-walk : goal.returns-in-Ok-clause-walk
returns-in-Ok-clause-walk c =
    let w = c.args.self.now in
    walk_gives (λ r. true) is_no_transfer (transferring w) (HasAllMoney w) (first_cell w) (cell_count w) (are_sound w) c.args.part.now c.requires.agrees c.requires.cells c.requires.empty c.args.op.now c.in-Ok.reply c.transfer.new.part c.in-Ok.ensures.walk

pub returns-in-Err-clause-walk : goal.returns-in-Err-clause-walk
returns-in-Err-clause-walk c =
    let w = c.args.self.now in
    let lacks = walk_needs (λ r. true) is_no_transfer (transferring w) (HasAllMoney w) (first_cell w) (cell_count w) (are_sound w) c.args.part.now c.requires.agrees c.requires.cells c.requires.empty c.args.op.now c.in-Err.need.addr c.in-Err.ensures.walk in
    (lacks, ap (λ p. p.script) c.undo.ensures, refl)
