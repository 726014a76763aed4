use Rattle.std.proofs.Common.{ℕ, ◌<◌, subst, ◌∙◌, arith}
use Rattle.of_memory.specs.Memories.{callers_of}
use Rattle.of_memory.specs.Saving.{saved_callers}
use Rattle.example_bank.proofs.Together.{can_settle, have_ended, go_on, keeps_money}
use Rattle.example_bank.proofs.days.day.Goals as goal

pub settle_all-requires-clause-few : goal.settle_all-requires-clause-few
settle_all-requires-clause-few g c = omega (arith, c.requires.few, c.in_ok-at_once.ensures.worked.count)

pub settle_all-requires-clause-still : goal.settle_all-requires-clause-still
settle_all-requires-clause-still g c =
    c.in_ok-evening.ensures.callers ∙ (c.memories_stay.ensures c.in_ok-memory.memory c.at_once.new.self c.in_ok-at_once.ensures.still).callers ∙ c.in_ok-memory.ensures.callers

pub settle_all-requires-clause-left : goal.settle_all-requires-clause-left
settle_all-requires-clause-left g c =
    let m = c.in_ok-memory.memory in
    let k = c.at_once.new.self in
    let opened = c.in_ok-memory.ensures in
    let one = c.in_ok-at_once.ensures in
    let low : (n : ℕ) → n < callers_of m → n < saved_callers c.args.saved.now = λ n less. subst (λ (b : ℕ). n < b) opened.callers less in
    can_settle c.args.saved.now m k c.args.clerks.items _ (omega (arith, c.requires.few, opened.callers)) opened.goes_on (λ n less. opened.tickets n (low n less)) (λ n less. opened.none n (low n less)) opened.idle one.still one.worked one.rest
    (c.memories_stay.ensures m k one.still).callers (c.memories_stay.ensures m k one.still).store

pub returns-clause-jobs : goal.returns-clause-jobs
returns-clause-jobs g c =
    let m = c.in_ok-memory.memory in
    let k = c.at_once.new.self in
    let opened = c.in_ok-memory.ensures in
    let one = c.in_ok-at_once.ensures in
    let low : (n : ℕ) → n < callers_of m → n < saved_callers c.args.saved.now = λ n less. subst (λ (b : ℕ). n < b) opened.callers less in
    go_on c.args.saved.now m k c.args.clerks.items _ (omega (arith, c.requires.few, opened.callers)) opened.goes_on (λ n less. opened.tickets n (low n less)) (λ n less. opened.none n (low n less)) opened.idle one.still one.worked one.rest (c.memories_stay.ensures m k one.still).callers
    (c.memories_stay.ensures m k one.still).store c.in_ok-evening.evening _ c.settle_all.ensures c.in_ok-evening.ensures.history

pub returns-clause-ended : goal.returns-clause-ended
returns-clause-ended g c =
    let m = c.in_ok-memory.memory in
    let k = c.at_once.new.self in
    let opened = c.in_ok-memory.ensures in
    let one = c.in_ok-at_once.ensures in
    let low : (n : ℕ) → n < callers_of m → n < saved_callers c.args.saved.now = λ n less. subst (λ (b : ℕ). n < b) opened.callers less in
    have_ended c.args.saved.now m k c.args.clerks.items _ (omega (arith, c.requires.few, opened.callers)) opened.goes_on (λ n less. opened.tickets n (low n less)) (λ n less. opened.none n (low n less)) opened.idle one.still one.worked one.rest
    (c.memories_stay.ensures m k one.still).callers (c.memories_stay.ensures m k one.still).store c.in_ok-evening.evening _ c.settle_all.ensures

pub returns-clause-money : goal.returns-clause-money
returns-clause-money g c = keeps_money c.args.saved.now c.in_ok-evening.evening c.args.clerks.items _ (returns-clause-jobs g c)
