use Rattle.std.proofs.Common.{◌≡◌, ◌<◌, ◌≤◌, ℕ, Option, Some, ap, arith, refl, sym, subst}
use Rattle.of_script.specs.declared.instr.Reply.{Reply}
use Rattle.of_memory.specs.Asking.{ShowLastCall}
use Rattle.of_memory.specs.Memories.{callers_of}
use Rattle.of_memory.proofs.Asked.{so_too}
use Rattle.of_c.specs.declared.held.Held.{Held}
use Rattle.of_c.specs.declared.held.Held.TheVariants.{Memory}
use Rattle.of_c.specs.declared.held.Home.{Home}
use Rattle.of_c.specs.Asking.{ShowsLastCall, ShowsNoCall}
use Rattle.of_c.specs.Causes.{KeepsHeld, HoldsMemoryWith, HasNoNumber}
use Rattle.of_c.specs.Slots.{HasMemory}
use Rattle.of_c.proofs.Knowing.{keeps_memory, keeps_held}
use Rattle.of_c.proofs.asking.last_reply_of_held.Goals as goal

-- a memory that has this number
has_number : (n : ℕ) (held : Held) (home : Home) → held ≡ Memory home → n < callers_of home.memory → HoldsMemoryWith (HasNoNumber n) (Some held) → ⊥
has_number n held home is few none =
    let same : home.memory ≡ none.memory = subst (λ (h : Held). HasMemory h none.memory) is none.is in
    let past : callers_of none.memory ≤ n = none.so in
    let many = ap callers_of same in
    omega (arith, few, past, many)

pub returns-then-number-callers-clause-range : goal.returns-then-number-callers-clause-range
returns-then-number-callers-clause-range c = (
  λ out. record {
    memory = c.in-Memory.home.memory;
    is = subst (λ (h : Held). HasMemory h c.in-Memory.home.memory) (sym c.in-Memory.is) refl;
    so = omega (arith, c.if-number-callers.true, c.callers.ensures);
  },
  λ none. refl,
)

pub returns-in-Ok-Some-clause-range : goal.returns-in-Ok-Some-clause-range
returns-in-Ok-Some-clause-range c = (
  λ out. absurd (omega (arith, out)),
  λ none. absurd (has_number c.args.number c.args.held.now c.in-Memory.home c.in-Memory.is (omega (arith, c.if-number-callers.false, c.callers.ensures)) none),
)

pub returns-in-Ok-None-clause-range : goal.returns-in-Ok-None-clause-range
returns-in-Ok-None-clause-range c = (
  λ out. absurd (omega (arith, out)),
  λ none. absurd (has_number c.args.number c.args.held.now c.in-Memory.home c.in-Memory.is (omega (arith, c.if-number-callers.false, c.callers.ensures)) none),
)

pub returns-in-Err-clause-range : goal.returns-in-Err-clause-range
returns-in-Err-clause-range c = (
  λ out. absurd (omega (arith, out)),
  λ none. absurd (has_number c.args.number c.args.held.now c.in-Memory.home c.in-Memory.is (omega (arith, c.if-number-callers.false, c.callers.ensures)) none),
)

pub returns-then-number-callers-clause-kept : goal.returns-then-number-callers-clause-kept
returns-then-number-callers-clause-kept c = subst (KeepsHeld c.args.held.now) c.in-Memory.is (keeps_held c.args.held.now)

pub returns-in-Ok-Some-clause-read : goal.returns-in-Ok-Some-clause-read
returns-in-Ok-Some-clause-read c done = record {
  memory = c.in-Memory.home.memory;
  was = subst (λ (h : Held). HasMemory h c.in-Memory.home.memory) (sym c.in-Memory.is) refl;
  next = c.last_reply_of.new.self;
  is = refl;
  so = so_too (ShowLastCall c.args.number c.in-Ok-Some.field-0) (ShowsLastCall c.args.number _) c.in-Memory.home.memory.cells c.last_reply_of.new.self.cells c.in-Ok-Some.ensures.last
      (λ cells h. record {
        reply = c.in-Ok-Some.last;
        held = subst (λ (z : Option (ℕ × Reply)). ShowLastCall c.args.number z cells) c.in-Ok-Some.field-0-is h;
        shows = record {
          len = c.show.ensures.shows.len;
          given = c.show.ensures.shows.given;
          values = c.show.ensures.shows.values;
          abort = c.show.ensures.shows.abort;
        };
      });
}

pub returns-in-Ok-Some-clause-kept : goal.returns-in-Ok-Some-clause-kept
returns-in-Ok-Some-clause-kept c = keeps_memory _ c.in-Memory.home _ c.in-Memory.is c.last_reply_of.ensures.still c.last_reply_of.ensures.none c.last_reply_of.ensures.remembers

pub returns-in-Ok-None-clause-absent : goal.returns-in-Ok-None-clause-absent
returns-in-Ok-None-clause-absent c gone = record {
  memory = c.in-Memory.home.memory;
  was = subst (λ (h : Held). HasMemory h c.in-Memory.home.memory) (sym c.in-Memory.is) refl;
  next = c.last_reply_of.new.self;
  is = refl;
  so = so_too (ShowLastCall c.args.number c.in-Ok-None.field-0) (ShowsNoCall c.args.number) c.in-Memory.home.memory.cells c.last_reply_of.new.self.cells c.in-Ok-None.ensures.last
      (λ cells h. subst (λ (z : Option (ℕ × Reply)). ShowLastCall c.args.number z cells) c.in-Ok-None.field-0-is h);
}

pub returns-in-Ok-None-clause-kept : goal.returns-in-Ok-None-clause-kept
returns-in-Ok-None-clause-kept c = keeps_memory _ c.in-Memory.home _ c.in-Memory.is c.last_reply_of.ensures.still c.last_reply_of.ensures.none c.last_reply_of.ensures.remembers

pub returns-in-Err-clause-busy : goal.returns-in-Err-clause-busy
returns-in-Err-clause-busy c later = record {
  memory = c.in-Memory.home.memory;
  was = subst (λ (h : Held). HasMemory h c.in-Memory.home.memory) (sym c.in-Memory.is) refl;
  next = c.last_reply_of.new.self;
  is = refl;
  busy = c.in-Err.ensures.cause;
}

pub returns-in-Err-clause-kept : goal.returns-in-Err-clause-kept
returns-in-Err-clause-kept c = keeps_memory _ c.in-Memory.home _ c.in-Memory.is c.last_reply_of.ensures.still c.last_reply_of.ensures.none c.last_reply_of.ensures.remembers
