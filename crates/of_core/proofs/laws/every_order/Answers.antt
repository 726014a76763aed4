use Rattle.std.proofs.Common.{arith}
use Rattle.std.proofs.lemmas.List.{take-append-drop}
use Rattle.std.proofs.Common.{take, drop, []}
use Rattle.of_core.proofs.laws.every_order.Goals as goal
use Rattle.of_core.specs.Events.{opening_moment, start_ticket}
use Rattle.of_core.specs.Laws.{setup_for}
use Rattle.of_core.proofs.EveryCall.{no_calls}
use Rattle.of_core.proofs.Linear.{durably_linearizable}
use Rattle.of_core.proofs.LinearLives.{any_lives}
use Rattle.of_core.proofs.Openings.{start_good}
use Rattle.of_core.proofs.Detecting.{detectable}
use Rattle.of_core.proofs.RealTime.{beyond, later_batch, since, own_calls}

pub returns : goal.returns
returns g c =
    let laws = g.met.W.Work in
    let S = setup_for g.W.Work.many g.W.Work.size g.W.Work.meaning c.args.limit c.args.work in
    let L = g.W.Work.lawful c.args.work in
    let sound = laws.sound c.args.work in
    let fits = laws.fits c.args.work in
    record {
      order = λ B may n room es s.
          (durably_linearizable S L sound B (opening_moment S B n) (start_good S L sound B may fits.some (omega (arith, fits.few)) fits.own n room (omega arith) (omega (arith, fits.small)))
          (λ i member. no_calls S L sound B i member may fits.some (omega (arith, fits.few)) fits.own n room (omega arith) (omega (arith, fits.small))) es s).0;
      detectable = λ B may n room es s order l r i member. detectable S B (opening_moment S B n) es order l r i member;
      since = λ B may n room es s k j y member l u.
          since S L sound B (opening_moment S B n) (start_good S L sound B may fits.some (omega (arith, fits.few)) fits.own n room (omega arith) (omega (arith, fits.small)))
          (λ a inside. no_calls S L sound B a inside may fits.some (omega (arith, fits.few)) fits.own n room (omega arith) (omega (arith, fits.small))) es s
          (take k es) (drop k es) (take-append-drop k es) j y member l u;
      real_time = λ B may n room es s i x j y k l h u.
          beyond S L sound B (opening_moment S B n) (start_good S L sound B may fits.some (omega (arith, fits.few)) fits.own n room (omega arith) (omega (arith, fits.small)))
          (λ a member. no_calls S L sound B a member may fits.some (omega (arith, fits.few)) fits.own n room (omega arith) (omega (arith, fits.small))) es s
          (take h.0 es) (drop h.0 es) (take-append-drop h.0 es) i x j y k l h.1 h.2 u;
      late = λ B may n room es s k i x l u b f t y d z q.
          later_batch S L sound B (opening_moment S B n) (start_good S L sound B may fits.some (omega (arith, fits.few)) fits.own n room (omega arith) (omega (arith, fits.small)))
          (λ a member. no_calls S L sound B a member may fits.some (omega (arith, fits.few)) fits.own n room (omega arith) (omega (arith, fits.small))) es s
          (take k es) (drop k es) (take-append-drop k es) i x l u b y d f t z q;
      own_time = λ B may n room es s i x member l.
          own_calls S L sound B i member es (opening_moment S B n) (start_good S L sound B may fits.some (omega (arith, fits.few)) fits.own n room (omega arith) (omega (arith, fits.small))) s (start_ticket S B i) [] []
          (no_calls S L sound B i member may fits.some (omega (arith, fits.few)) fits.own n room (omega arith) (omega (arith, fits.small))) x (omega arith) l;
      lives = λ B may n room ls s. any_lives S L sound fits.some (omega (arith, fits.few)) fits.own n room (omega arith) (omega (arith, fits.small)) B may ls s;
    }
