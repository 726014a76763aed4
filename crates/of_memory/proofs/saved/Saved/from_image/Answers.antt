use Rattle.std.proofs.lemmas.Result.{IfOk-weaker, IfErr-weaker}
use Rattle.of_memory.specs.Texts.{TextHolds, IsImageOfSaved, IsPastAll, IsTextCause}
use Rattle.of_memory.proofs.Texts.{read_cause, read_back}
use Rattle.of_memory.proofs.saved.Saved.from_image.Goals as goal

pub returns-in-Ok-clause-holds : goal.returns-in-Ok-clause-holds
returns-in-Ok-clause-holds c =
    IfOk-weaker c.save_image.result (IsImageOfSaved c.in-Ok.image) (TextHolds c.args.text.now) (λ d held. (c.in-Ok.image, c.in-Ok.ensures.ok, held)) c.save_image.ensures.image

pub returns-in-Ok-clause-cause : goal.returns-in-Ok-clause-cause
returns-in-Ok-clause-cause c =
    let i = c.in-Ok.image in
    IfErr-weaker c.save_image.result (IsPastAll i) (IsTextCause c.args.text.now) (λ e h. read_cause c.args.text.now i e c.in-Ok.ensures.ok h) c.save_image.ensures.past

pub returns-in-Ok-clause-back : goal.returns-in-Ok-clause-back
returns-in-Ok-clause-back c d is holds =
    read_back c.args.text.now c.in-Ok.image c.save_image.result c.save_image.ensures.saved c.save_image.ensures.image c.save_image.ensures.past d is holds (c.in-Ok.ensures.only holds.0 holds.1)

pub returns-in-Err-Unlawful-clause-back : goal.returns-in-Err-Unlawful-clause-back
returns-in-Err-Unlawful-clause-back c d is holds = let not = c.in-Err-Unlawful.ensures.only holds.0 holds.1 in absurd cc
