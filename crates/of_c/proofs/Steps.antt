-- The steps of the walks.
pub use mathlib.Core.Path.{◌≡◌, refl, sym, ap, subst, ◌∙◌}
pub use mathlib.Core.List.{List, [], ◌∷◌, ◌++◌}
pub use lib.Dec.{T}
pub use mir.Val.{Val, vint, vptr, vstruct, vcons, vnil, has_ty, WT}
pub use mir.Raw.{raw as bare}
pub use base.Logic.{emp, id⊢, never, fst∗}
pub use base.Fml.{Fml, ftrue, fsep, flft}
pub use prog.Wp.{WpFn}
pub use contract.Monad.{fact}
pub use contract.BorrowLft.{◌⊑◌}
pub use contract.Running.{tables}
pub use types.Logic.{sem}
pub use types.Kit.{by, Item, ‵, raw, ◌⊛◌, some, later, prop, at_ret, ◌$◌, ◌∵◌, !, qed, done, move, keep, drop, use1, split, split3, join, fsplit, fjoin, fpick, fpack, feq_i, feq_l, pick, await, rewrite, regoal, suffices}
pub use types.Part.{whole, sub, agg}
pub use types.Run.{enter, of_opd, lit, stop, fld, no_more, and_then, first, blocks, exec, returns}
pub use types.ByLocal.{alloc_all, pass_all, free_all, look_at, get, get_in, sets, lands_as, lands_last, env}
pub use denote.Exit.{yes, no}
pub use denote.RattleType.{RattleType, Valss}
pub use denote.RawPtr.{Ptr, RawPtr, block_ptr, null_ptr, ptr_val, in_a_block}
pub use denote.Signature.{plain, type_at}
pub use denote.Steps.{nothing, heard, only}
pub use denote.Struct.Struct.{within}
pub use denote.Struct.Owning.{shape, fields, to}
pub use denote.Triple.Call.{calls_at, calls_at_last}
pub use denote.Triple.Spec.{triple_of}
pub use denote.Triple.Table.{framed}
pub use denote.Triple.Walked.{Stays, says, stay_dropped, walk_of, ends_at, Goes-dropped}
pub use Rattle.std.proofs.Common.{lit<, w64}
pub use Rattle.std.proofs.raw_atomic.Walks.{proved_at}
pub use Rattle.core.proofs.alloc.Calls.{token, handle_tells, Goes-blank}
pub use Rattle.std_alloc.specs.Box.Ownership.{box_owns}
pub use Rattle.std_alloc.proofs.BoxSteps.Form.{Bx, D, τ, R, P, B, word, box_ty, box_typed}
pub use Rattle.std_alloc.proofs.BoxSteps.Steps.{box_out, box_in}
pub use Rattle.std_alloc.proofs.ResultValues.{and_tt}
