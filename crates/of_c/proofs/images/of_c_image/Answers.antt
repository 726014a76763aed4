use Rattle.std.proofs.Common.{◌≡◌, ℕ, ◌<◌, List, length, subst}
use Rattle.of_c.specs.Images.{HoldsText}
use Rattle.of_c.proofs.Stores.{text_with}
use Rattle.of_c.proofs.images.of_c_image.Goals as goal

pub returns-in-Ok-clause-written : goal.returns-in-Ok-clause-written
returns-in-Ok-clause-written c done =
    text_with _ c.in-Ok.ensures.text
    (subst (λ (t : List ℕ). HoldsText t c.args.buffer.now c.write_text.new.buffer × (c.write_text.new.size ≡ length t)) c.deref.ensures.value
    (c.write_text.ensures.written done, c.write_text.ensures.size))

pub returns-in-Ok-clause-short : goal.returns-in-Ok-clause-short
returns-in-Ok-clause-short c short =
    text_with _ c.in-Ok.ensures.text
    (subst (λ (t : List ℕ). (length c.args.buffer.now < length t) × (c.write_text.new.size ≡ length t)) c.deref.ensures.value
    (c.write_text.ensures.short short, c.write_text.ensures.size))

pub returns-in-Ok-clause-uncounted : goal.returns-in-Ok-clause-uncounted
returns-in-Ok-clause-uncounted c untold = absurd (c.write_text.ensures.told untold)
