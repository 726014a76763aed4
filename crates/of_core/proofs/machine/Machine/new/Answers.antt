use Rattle.std.proofs.Common.{rules, sym, ap, ◌∙◌, length, arith, None}
use Rattle.std.proofs.lemmas.List.{length-replicate}
use Rattle.of_mem.specs.Part.{Part}
use Rattle.of_mem.specs.WriteSet.{WriteSet}
use Rattle.of_core.proofs.machine.Machine.new.Goals as goal

pub invariant_of-result : goal.invariant_of-result
invariant_of-result g c =
    let laws = g.met.W.Work in
    let fits = laws.fits c.args.work in
    let r = c.requires in
    record {
      instrs = r.instrs;
      durable = search rules;
      own_log = search rules;
      fit = record {
        callers = sym r.callers;
        cells = sym r.cells;
        own_in = omega (arith, fits.own, r.callers, r.cells);
        limit = r.limit;
        caller = r.caller;
        owner = omega arith;
        upto = omega arith;
        words = search rules;
        script = search rules;
        known = ap (λ (p : Part). length p.known) c.in_ok-op.ensures.part ∙ length-replicate c.args.shape.cells None;
        place = tt;
      };
      room = record {
        log = ap (λ (p : WriteSet). p.room) c.in_ok-op.ensures.log;
        op = search rules;
        scripts_in = search rules;
        copy = search rules;
        calls = search rules;
        scanning = search rules;
        reading = search rules;
        empty = ap (λ (p : Part). p.script) c.in_ok-op.ensures.part;
      };
    }
