use Rattle.std.proofs.Common.{◌≡◌, subst, sym, ◌∙◌, ap, arith, reverse, map, length, drop}
use Rattle.std.proofs.lemmas.List.{reverse-reverse, take_at}
use Rattle.of_mem.specs.ProgramWork.{memory_of}
use Rattle.of_cells.specs.Memories.{work_of, tickets_before}
use Rattle.example_accounts.specs.Accounts.{HasAllMoney, balance_in}
use Rattle.example_accounts.specs.Meaning.{accounts_meaning}
use Rattle.example_accounts.specs.Days.{job_of, job_of_teller}
use Rattle.example_accounts.proofs.Tellers.{have_logs, same_jobs}
use Rattle.example_accounts.proofs.Evenings.{tickets, work_is, size, money, history, balances}
use Rattle.example_accounts.proofs.day.day.Goals as goal

pub returns : goal.returns
returns g c =
    let m = c.args.memory in
    let w = work_of m in
    let k = c.gather.new.memory in
    let d = c.in_ok-saved.saved in
    let s = c.in_ok-saved.ensures in
    let calls = s.history.0 in
    let leads = s.history.1 in
    let still = c.gather.ensures.still ∙ c.seat_all.ensures.still in
    let is = c.in_ok-cells.ensures in
    let seated = c.in_ok-tellers.tellers in
    let worked = c.work_all.new.tellers in
    let many : length worked ≡ seated.len = omega (arith, c.work_all.ensures.len, ap length c.as_mut_slice.ensures.value, seated.ok) in
    let all = ap (map job_of_teller) (take_at worked (drop (length worked) seated.items) seated.len many) in
    let same = same_jobs c.as_mut_slice.result.now worked c.work_all.ensures.len (λ i t l. (c.work_all.ensures.worked i t l).same.job) ∙ ap (map job_of_teller) c.as_mut_slice.ensures.value in
    let jobs = c.in_ok-tellers.ensures.jobs ∙ ap reverse (sym same ∙ sym all ∙ c.in_ok-logs.ensures.jobs) in
    record {
      saved = s.saved;
      work = s.work ∙ work_is m k d still s.saved s.lawful s.work calls leads;
      cells = is;
      size = ap length is ∙ size m k d still s.saved s.lawful s.work calls leads;
      money = subst (λ xs. HasAllMoney w (memory_of xs)) (sym is) (money m k d still s.saved s.lawful s.work calls leads);
      calls = calls;
      history = history m k d still s.saved s.lawful s.work calls leads;
      order = leads.one.order;
      balances = λ a l. ap (λ xs. balance_in w (memory_of xs) a) is ∙ balances m k d still s.saved s.lawful s.work calls leads a l;
      logs = have_logs k d calls (tickets_before accounts_meaning m) c.in_ok-logs.logs.items leads (tickets m k d still s.saved s.lawful s.work calls leads) c.in_ok-logs.ensures.logs;
      jobs = sym (jobs ∙ reverse-reverse (map job_of c.in_ok-logs.logs.items));
    }
