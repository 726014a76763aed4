use Rattle.std.proofs.Common.{◌≤◌, ◌-◌, ◌%◌, ◌∙◌, length, sym, arith}
use Rattle.of_mem.specs.declared.index.TheConstants.{HOMES}
use Rattle.of_mem.specs.Chains.{pairs_of}
use Rattle.of_mem.proofs.Chains.{entries_size, address_is, noted_older, latest_few, begins_home, begins_unmet, older_less, older_home, older_unmet}
use Rattle.of_mem.proofs.index.follow.Goals as goal

pub loop-at-init : goal.loop-at-init
loop-at-init c = rw c.requires.last (record {
  few = omega (arith, latest_few HOMES (pairs_of c.args.entries.now) (c.args.addr % HOMES) (length (pairs_of c.args.entries.now)), entries_size c.args.entries.now);
  home = begins_home HOMES (pairs_of c.args.entries.now) c.args.addr;
  unmet = begins_unmet HOMES (pairs_of c.args.entries.now) c.args.addr;
})

pub returns-then-entries-place : goal.returns-then-entries-place
returns-then-entries-place c = (
  omega (arith, c.loop-at-test.true, c.loop-at.invariant.few, entries_size c.args.entries.now),
  address_is c.args.entries.now _ ∙ c.if-entries-place.true,
)

pub loop-at-smaller : goal.loop-at-smaller
loop-at-smaller c =
    let es = c.args.entries.now in
    let few : c.loop-at.at ≤ length (pairs_of es) = omega (arith, c.loop-at.invariant.few, entries_size es) in
    rw (← noted_older es (c.loop-at.at - 1)) (older_less HOMES (pairs_of es) _ c.args.addr c.loop-at.at c.requires.chains c.loop-at-test.true few (c.loop-at.invariant.home c.loop-at-test.true))

pub loop-at-preserved : goal.loop-at-preserved
loop-at-preserved c =
    let es = c.args.entries.now in
    let few : c.loop-at.at ≤ length (pairs_of es) = omega (arith, c.loop-at.invariant.few, entries_size es) in
    let h = c.loop-at.invariant.home c.loop-at-test.true in
    rw (← noted_older es (c.loop-at.at - 1))
    (record {
      few = omega (arith, older_less HOMES (pairs_of es) _ c.args.addr c.loop-at.at c.requires.chains c.loop-at-test.true few h, c.loop-at.invariant.few);
      home = older_home HOMES (pairs_of es) _ c.args.addr c.loop-at.at c.requires.chains c.loop-at-test.true few h;
      unmet = older_unmet HOMES (pairs_of es) _ c.args.addr c.loop-at.at c.requires.chains c.loop-at-test.true few h (λ q. c.if-entries-place.false (sym (address_is es _) ∙ q)) c.loop-at.invariant.unmet;
    })
