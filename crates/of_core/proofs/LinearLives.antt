-- Lives are durably linearizable together.
use Rattle.std.proofs.Common.{◌≡◌, ℕ, ◌+◌, ◌*◌, ◌<◌, ◌≤◌, ◌⊎◌, inl, inr, List, [], ◌∷◌, length, get_or, drop, refl, sym, ◌∙◌, ap, arith, false, map}
use Rattle.std.specs.List.{All}
use Rattle.std.proofs.lemmas.List.{length-map}
use Rattle.std.proofs.lemmas.List.Elements.{All-append}
use Rattle.of_mem.specs.declared.work.TheConstants.{MOST_INSTRS}
use Rattle.of_cell.specs.declared.word.TheConstants.{PAYLOADS}
use Rattle.of_cell.specs.Words.{payload_of}
use Rattle.of_cell.proofs.Places.{row_within}
use Rattle.of_mem.specs.Meaning.{IsSoundMeaning, SameFrom}
use Rattle.of_core.specs.Table.{Setup, first_operation_cell, cell_count, ticket_cell}
use Rattle.of_core.specs.Machine.{Call, no_call}
use Rattle.of_core.specs.TableMoment.{Moment, TableStart}
use Rattle.of_core.specs.History.{numbers_after_calls}
use Rattle.of_core.specs.WordsMatch.{MayStart}
use Rattle.of_core.specs.Invariant.{MeetsInvariant}
use Rattle.of_core.specs.Events.{Event, after_events, IsSchedule, opening_moment, start_ticket}
use Rattle.of_core.specs.Claim.{IsNewerCall, IsSound}
use Rattle.of_core.specs.Calls.{HasCalls}
use Rattle.of_core.specs.Linear.{recovered_number, FindsCall, IsDurablyLinearizable}
use Rattle.of_core.specs.LinearLives.{start_after, AreScheduleLives, whole_order, AreDurablyLinearizable}
use Rattle.of_core.proofs.Overlays.{calls_length}
use Rattle.of_core.proofs.Replays.{calls_from, replies_from}
use Rattle.of_core.proofs.Openings.{start_good}
use Rattle.of_core.proofs.Moments.{run_good}
use Rattle.of_core.proofs.Claims.{is_sound}
use Rattle.of_core.proofs.RecoveredRow.{may_restart}
use Rattle.of_core.proofs.EveryCall.{no_calls}
use Rattle.of_core.proofs.InOrder.{after_append, replies_append, pairs_append}
use Rattle.of_core.proofs.Linear.{durably_linearizable}

module _ (S : Setup) (Lawful : List ℕ → Type 0) (sound : IsSoundMeaning S.meaning Lawful (first_operation_cell S) S.cells) (some : 0 < S.callers) (few : S.callers < PAYLOADS) (own_in : first_operation_cell S ≤ S.cells) (n : ℕ) (room : cell_count S + cell_count S + S.callers * (S.instrs + 1) ≤ n) (narrow : S.instrs ≤ MOST_INSTRS) (little : S.cells < PAYLOADS) where
  -- a call that may write is older than each later one of its caller
  abbrev Once : Call → Call → Type 0
  Once c d = S.meaning.reads_only c.op ≡ false → IsNewerCall c d

  abbrev IsNew : TableStart → Call → Type 0
  IsNew B c = start_ticket S B c.caller < c.ticket

  -- One life.
  module _ (B : TableStart) (may : MayStart S Lawful B) (es : List Event) (schedule : IsSchedule S (opening_moment S B n) es) where
    abbrev w : Moment
    w = after_events S (opening_moment S B n) es

    good_start : MeetsInvariant S Lawful B (opening_moment S B n)
    good_start = start_good S Lawful sound B may some few own_in n room narrow little

    none : (i : ℕ) → i < S.callers → HasCalls S B (start_ticket S B i) (opening_moment S B n) i [] []
    none i member = no_calls S Lawful sound B i member may some few own_in n room narrow little

    linear : IsDurablyLinearizable S B (opening_moment S B n) es
    linear = (durably_linearizable S Lawful sound B (opening_moment S B n) good_start none es schedule).0

    -- the next life starts where the order leads
    same : SameFrom (first_operation_cell S) (map payload_of (start_after S n B es).cells) (numbers_after_calls S.meaning (map payload_of B.cells) linear.order)
    unfolding linear
    same = (durably_linearizable S Lawful sound B (opening_moment S B n) good_start none es schedule).1

    good : MeetsInvariant S Lawful B w
    good = run_good S Lawful sound B es (opening_moment S B n) good_start schedule

    claim : IsSound S B w
    claim = is_sound S Lawful sound B w good.core good.within good.late good.order

    next_start : MayStart S Lawful (start_after S n B es)
    next_start = may_restart S Lawful B w good claim

    next_ticket : (i : ℕ) → i < S.callers → start_ticket S (start_after S n B es) i ≡ recovered_number S w (ticket_cell S i)
    next_ticket i member = sym (ap payload_of (claim.recovers (ticket_cell S i) (omega (arith, row_within i S.callers (S.instrs + 2) member, own_in))))

    first_long : length (map payload_of B.cells) ≡ S.cells
    first_long = length-map B.cells payload_of ∙ may.start.size

    next_long : length (map payload_of (start_after S n B es).cells) ≡ S.cells
    next_long = length-map (start_after S n B es).cells payload_of ∙ next_start.start.size

    -- no ticket falls
    ticket_rises : (i : ℕ) → i < S.callers → start_ticket S B i ≤ start_ticket S (start_after S n B es) i
    ticket_rises i member = go (linear.recovered.own i member).last
      where
        go : (recovered_number S w (ticket_cell S i) ≡ start_ticket S B i) ⊎ ((p : ℕ) × (p < length linear.order) × ((get_or linear.order p no_call).caller ≡ i) × FindsCall S w (get_or linear.order p no_call)) → start_ticket S B i ≤ start_ticket S (start_after S n B es) i
        go (inl e) = omega (arith, e, next_ticket i member)
        go (inr h) =
            let begun = (linear.linearizes.begun h.0 no_call h.1).1 refl in
            omega (arith, begun.0, h.3.ticket, next_ticket i member, ap (start_ticket S B) h.2, ap (λ (x : ℕ). recovered_number S w (ticket_cell S x)) h.2)

  -- a list of lives is durably linearizable, by calls of the table's callers
  pub Lives : TableStart → List (List Event) → Type 0
  Lives B lives = (l : AreDurablyLinearizable S n B lives) × All (λ (c : Call). c.caller < S.callers) (whole_order l.orders)

  no_lives : (B : TableStart) → Lives B []
  unfolding Lives
  no_lives B = (
    record {
      orders = [];
      each = tt;
      legal = tt;
      leads = refl;
      once = λ p q l u. absurd (omega (arith, u));
      newer = λ k d l. absurd (omega (arith, l));
    },
    λ k d l. absurd (omega (arith, l)),
  )

  -- one life more in front
  one_more : (B : TableStart) (may : MayStart S Lawful B) (es : List Event) (schedule : IsSchedule S (opening_moment S B n) es) (lives : List (List Event)) → Lives (start_after S n B es) lives → Lives B (es ∷ lives)
  unfolding Lives
  one_more B may es schedule lives more = (
    record {
      orders = first.order ∷ rest.orders;
      each = (first.linearizes, first.by_seq, first.recovered, rest.each);
      legal = replies_append S.meaning start first.order (whole_order rest.orders) first.linearizes.legal (replies_from S Lawful sound B next there (whole_order rest.orders) next_is there_is meets rest.legal);
      leads = rest.leads ∙ calls_from S Lawful sound B next there (whole_order rest.orders) next_is there_is meets ∙ ap (λ (xs : List ℕ). drop (first_operation_cell S) xs) (sym (after_append S.meaning start first.order (whole_order rest.orders)));
      once = pairs_append Once first.order (whole_order rest.orders) (λ p q l u writes. first.linearizes.rising p q l u) rest.once across;
      newer = All-append (IsNew B) first.order (whole_order rest.orders) (λ p d l. ((first.linearizes.begun p d l).1 refl).0) (λ p d l. let t = rest.newer p d l in omega (arith, t, ticket_rises B may es schedule (get_or (whole_order rest.orders) p d).caller (more.1 p d l)));
    },
    All-append (λ (c : Call). c.caller < S.callers) first.order (whole_order rest.orders) (λ p d l. (first.linearizes.begun p d l).0) more.1,
  )
    where
      first : IsDurablyLinearizable S B (opening_moment S B n) es
      first = linear B may es schedule

      rest : AreDurablyLinearizable S n (start_after S n B es) lives
      rest = more.0

      start : List ℕ
      start = map payload_of B.cells

      next : List ℕ
      next = map payload_of (start_after S n B es).cells

      there : List ℕ
      there = numbers_after_calls S.meaning start first.order

      next_is : length next ≡ S.cells
      next_is = next_long B may es schedule

      there_is : length there ≡ S.cells
      there_is = calls_length S Lawful sound start first.order (first_long B may es schedule)

      meets : SameFrom (first_operation_cell S) next there
      meets = same B may es schedule

      across : All (λ (c : Call). All (Once c) (whole_order rest.orders)) first.order
      across p d l q e u writes own =
          let member = (first.linearizes.begun p d l).0 in
          let old = (first.recovered.own (get_or first.order p d).caller member).upto p d l refl writes in
          let new = rest.newer q e u in
          omega (arith, old, new, next_ticket B may es schedule (get_or first.order p d).caller member, ap (start_ticket S (start_after S n B es)) own)

  pub lives_linear : (lives : List (List Event)) (B : TableStart) → MayStart S Lawful B → AreScheduleLives S n B lives → Lives B lives
  lives_linear [] B may s = no_lives B
  lives_linear (es ∷ lives) B may s = one_more B may es s.0 lives (lives_linear lives (start_after S n B es) (next_start B may es s.0) s.1)

  pub any_lives : (B : TableStart) → MayStart S Lawful B → (lives : List (List Event)) → AreScheduleLives S n B lives → AreDurablyLinearizable S n B lives
  unfolding Lives
  any_lives B may lives s = (lives_linear lives B may s).0
