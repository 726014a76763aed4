use Rattle.std.proofs.Common.{◌≡◌, ℕ, List, length, refl, ap, subst, arith}
use Rattle.of_plan.specs.Pieces.{IsBad}
use Rattle.of_image.specs.Reasons.{IsTrueOfImage}
use Rattle.of_image.proofs.Faults.{word_fault, hidden_fault}
use Rattle.of_image.proofs.refusal.in_text.Goals as goal

pub returns-then-byte-end : goal.returns-then-byte-end
returns-then-byte-end c = hidden_fault c.args.grammar c.args.text.now c.args.line.now c.args.number c.in-Some.byte c.requires.line c.requires.bad c.requires.is.2.0.kept c.in-Some.ensures

pub returns : goal.returns
returns c =
    let g = c.args.grammar in
    let p = c.requires.is.0 in
    let same : length c.args.line.now ≡ length _ = ap length c.requires.line in
    word_fault g c.args.text.now c.args.number c.args.bad.piece _ _ _ (IsTrueOfImage g c.args.bad.reason p) c.requires.bad (subst (λ (l : List ℕ). IsBad l c.args.bad.piece (IsTrueOfImage g c.args.bad.reason p)) c.requires.line c.requires.is.2.1)
    (λ before piece h. c.with_line.ensures g p before piece c.requires.is.1 h) (omega (arith, same)) refl
