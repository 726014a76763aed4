-- A struct may go to another thread: its pointer and its allocator may, and so may what it holds,
-- which can be let go there.
use mir.Raw.{raw}
use base.Shift.{Keyless}
use denote.Memory.{lone}
use denote.RawPtr.{Ptr}
use denote.Struct.Struct.{exits_of}
use denote.Struct.Owning.{shape, fields, to}
use denote.Param.Send.{IsSend, AllSend, owning_send, struct_send, sendable}
use Rattle.std.specs.Prelude.{Option, None, Some}
use Rattle.std.specs.Global.{Global}
use Rattle.std.proofs.Crossing.{frees}
use Rattle.std_alloc.proofs.SendSync.{quiet, lies}
use Rattle.std_heap.proofs.Global.TheSendSync.{the_field_send}
use Rattle.of_c.specs.Holding.{block_owned}
use Rattle.of_c.specs.contracts.held.Held as held
use Rattle.of_c.proofs.held.Held.TheSendSync.{the_send}
use Rattle.of_c.specs.contracts.raw.Raw.{the_row, the_type}

fields_go : AllSend (fields the_type)
fields_go = (search sendable, (the_field_send, tt))

block_goes : (at : Ptr) (alloc : Global) (x : Option held.the_row.Denot) → Keyless (block_owned at alloc x)
block_goes at alloc None = tt
block_goes at alloc (Some x) = (lies held.the_row the_send at x, frees.frees alloc (raw (lone held.the_row.mir)) at)

pub send : IsSend the_row
send =
    owning_send the_type fields_go (λ s. block_goes s.at s.alloc s.held)
    (λ k. quiet (to the_type) (exits_of k (fields the_type)) ((struct_send (shape the_type) fields_go).leaving k))
