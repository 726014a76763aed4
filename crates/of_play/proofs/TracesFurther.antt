-- The code that traces a plan goes on event by event.
use Rattle.std.proofs.Common.{◌≡◌, ℕ, zero, suc, ◌+◌, ◌-◌, ◌<◌, ◌≤◌, List, [], ◌∷◌, ◌++◌, length, get_or, take, replicate, refl, sym, ◌∙◌, ap, subst, arith, length-append}
use Rattle.std.specs.String.{string_bytes}
use Rattle.std.specs.List.{flat_map}
use Rattle.std.proofs.lemmas.Grind.{flat_map-append}
use Rattle.std.proofs.lemmas.List.{append_assoc, append-nil, take_more}
use Rattle.of_plan.specs.declared.plan.Item.{Item}
use Rattle.of_plan.specs.Plan.{Plan}
use Rattle.of_core.specs.Events.{Event, Turns, after_events}
use Rattle.of_caller.specs.Tables.{plan_setup, opening_for}
use Rattle.of_play.specs.Play.{item_events, plan_events, events_from}
use Rattle.of_play.specs.ScheduleRun.{StandsAfter, IsPlaying, MakesMoves}
use Rattle.of_play.specs.Trace.{lines_from, trace_text, commits_text}
use Rattle.of_play.specs.TraceRun.{line_as, WritesLine, shown_lines, TracesAfter, IsTracing, TracesOn}
use Rattle.of_play.specs.declared.schedule_run.trace_run.Form.TheVariants.{Events, Commits}
use Rattle.of_play.specs.declared.schedule_run.trace_run.TraceRun.{TraceRun}
use Rattle.of_play.proofs.PlaysEvents.{events_append}
use Rattle.of_play.proofs.TraceLines.{lines_length, lines_more, shown_none, shown_more, shown_over, shown_nothing}

-- where it hasn't shown all it is at a run of the plan
pub runs_on : (p : Plan) (t : TraceRun) → IsTracing p t → t.number < t.end → IsPlaying p t.playing
runs_on p t r h = record { plan = r.plan; events = events_from p (opening_for p) r.moves; stands = r.stands.stands h }

-- moves after moves, and none
pub traces_further : (p : Plan) (ms ns : List Event) (r s t : TraceRun) → TracesOn p ms r s → TracesOn p ns s t → TracesOn p (ms ++ ns) r t
traces_further p ms ns r s t f g = record {
  form = g.form ∙ f.form;
  first = g.first ∙ f.first;
  end = g.end ∙ f.end;
  stands = λ os st. subst (λ (es : List Event). TracesAfter p es t) (append_assoc os ms ns) (g.stands (os ++ ms) (f.stands os st));
}

pub traces_nowhere : (p : Plan) (t : TraceRun) → TracesOn p [] t t
traces_nowhere p t = record { form = refl; first = refl; end = refl; stands = λ ms st. subst (λ (es : List Event). TracesAfter p es t) (sym (append-nil ms)) st }

pub traces_still : (p : Plan) (ms : List Event) (s t : TraceRun) → IsTracing p s → TracesOn p ms s t → IsTracing p t
traces_still p ms s t r f = record { plan = r.plan; first = omega (arith, r.first, f.first, f.end); moves = r.moves ++ ms; stands = f.stands r.moves r.stands }

-- one turn more
pub trace_turn_more : (p : Plan) (c n : ℕ) (r s t : TraceRun) → TracesOn p (replicate n (Turns c)) r s → TracesOn p (Turns c ∷ []) s t → TracesOn p (replicate (n + 1) (Turns c)) r t
trace_turn_more p c n r s t f g = subst (λ (ms : List Event). TracesOn p ms r t) (more n) (traces_further p (replicate n (Turns c)) (Turns c ∷ []) r s t f g)
  where
    all : (n : ℕ) → replicate n (Turns c) ++ Turns c ∷ [] ≡ replicate (suc n) (Turns c)
    all zero = refl
    all (suc n) = ap (λ (es : List Event). Turns c ∷ es) (all n)

    more : (n : ℕ) → replicate n (Turns c) ++ Turns c ∷ [] ≡ replicate (n + 1) (Turns c)
    more n = let e : suc n ≡ n + 1 = omega arith in all n ∙ ap (λ (k : ℕ). replicate k (Turns c)) e

module _ (p : Plan) (e : Event) (t : TraceRun) (r : IsTracing p t) where
  -- where all is shown nothing is done
  pub trace_stays : t.number ≡ t.end → TracesOn p (e ∷ []) t t
  trace_stays h = record {
    form = refl;
    first = refl;
    end = refl;
    stands = λ ms st.
        let more : length (ms ++ e ∷ []) ≡ length ms + 1 = length-append ms (e ∷ []) in
        let all : t.end ≤ length ms = st.over (omega (arith, h)) in
        record {
          before_end = st.before_end;
          number = λ l. absurd (omega (arith, l, h));
          stands = λ l. absurd (omega (arith, l, h));
          over = λ l. omega (arith, all, more);
          text = st.text ∙ sym (ap (shown_lines t.first (t.end - t.first)) (lines_more (line_as t.form p) p 0 (opening_for p) ms e)
              ∙ shown_over t.first (t.end - t.first) (lines_from (line_as t.form p) p 0 (opening_for p) ms) _ (omega (arith, all, r.first, lines_length (line_as t.form p) p 0 (opening_for p) ms)));
        };
  }

  -- an event is made, and a text is left that is that of one event more
  module _ (h : t.number < t.end) (u : TraceRun) (form : u.form ≡ t.form) (first : u.first ≡ t.first) (end : u.end ≡ t.end) (next : u.number ≡ t.number + 1) (goes : MakesMoves p (e ∷ []) t.playing u.playing) where
    goes_on : ((ms : List Event) → TracesAfter p ms t → string_bytes u.text ≡ shown_lines t.first (t.end - t.first) (lines_from (line_as t.form p) p 0 (opening_for p) (ms ++ e ∷ []))) → TracesOn p (e ∷ []) t u
    goes_on text = record {
      form = form;
      first = first;
      end = end;
      stands = λ ms st.
          let more : length (ms ++ e ∷ []) ≡ length ms + 1 = length-append ms (e ∷ []) in
          let number : t.number ≡ length ms = st.number h in
          record {
            before_end = omega (arith, h, next, end);
            number = λ l. omega (arith, next, number, more);
            stands = λ l. subst (λ (es : List Event). StandsAfter p es u.playing) (sym (events_append p (opening_for p) ms (e ∷ []))) (goes (events_from p (opening_for p) ms) (st.stands h));
            over = λ l. omega (arith, l, next, number, more);
            text = text ms st ∙ sym (λ i. shown_lines (first i) (end i - first i) (lines_from (line_as (form i) p) p 0 (opening_for p) (ms ++ e ∷ [])));
          };
    }

    -- before the first that is shown
    pub trace_passes : t.number < t.first → string_bytes u.text ≡ string_bytes t.text → TracesOn p (e ∷ []) t u
    trace_passes early same = goes_on (λ ms st.
        let more : length (ms ++ e ∷ []) ≡ length ms + 1 = length-append ms (e ∷ []) in
        let number : t.number ≡ length ms = st.number h in
        same ∙ st.text ∙ shown_none t.first (t.end - t.first) (lines_from (line_as t.form p) p 0 (opening_for p) ms) (lines_from (line_as t.form p) p 0 (opening_for p) (ms ++ e ∷ []))
        (omega (arith, early, number, lines_length (line_as t.form p) p 0 (opening_for p) ms)) (omega (arith, early, number, more, lines_length (line_as t.form p) p 0 (opening_for p) (ms ++ e ∷ []))))

    -- and from there on
    pub trace_shows : t.first ≤ t.number → WritesLine t.form p t.number e t.playing t.text u.text → TracesOn p (e ∷ []) t u
    trace_shows late writes = goes_on (λ ms st.
        let number : t.number ≡ length ms = st.number h in
        let place : t.number ≡ 0 + length ms = omega (arith, number) in
        let lines = lines_from (line_as t.form p) p 0 (opening_for p) ms in
        let es = events_from p (opening_for p) ms in
        writes es (st.stands h)
        ∙ (λ i. st.text i ++ line_as t.form p (place i) (after_events (plan_setup p) (opening_for p) es) e)
        ∙ sym (ap (shown_lines t.first (t.end - t.first)) (lines_more (line_as t.form p) p 0 (opening_for p) ms e)
        ∙ shown_more t.first (t.end - t.first) lines _ (omega (arith, late, number, lines_length (line_as t.form p) p 0 (opening_for p) ms)) (omega (arith, h, r.first, number, lines_length (line_as t.form p) p 0 (opening_for p) ms))))

-- before anything has happened
pub trace_begins : (p : Plan) (t : TraceRun) → t.number ≡ 0 → StandsAfter p [] t.playing → string_bytes t.text ≡ [] → TracesAfter p [] t
trace_begins p t none st text = record {
  before_end = omega (arith, none);
  number = λ l. none;
  stands = λ l. st;
  over = λ l. omega (arith, l, none);
  text = text ∙ sym (shown_nothing t.first (t.end - t.first));
}

-- the moves of one item more
moves_more : (p : Plan) (items : List Item) → items ≡ p.schedule → (k : ℕ) (d : Item) → k < length items → flat_map item_events (take k p.schedule) ++ item_events (get_or items k d) ≡ flat_map item_events (take (k + 1) p.schedule)
moves_more p items same k d l =
    let ms = flat_map item_events (take k p.schedule) in
    let item = get_or items k d in
    ap (λ (ns : List Event). ms ++ ns) (sym (append-nil (item_events item)))
    ∙ sym (flat_map-append item_events (take k p.schedule) (item ∷ []))
    ∙ ap (λ (xs : List Item). flat_map item_events (take k p.schedule ++ get_or xs k d ∷ [])) same
    ∙ ap (flat_map item_events) (sym (take_more p.schedule k d (omega (arith, l, ap length same))))

pub trace_items_more : (p : Plan) (items : List Item) → items ≡ p.schedule → (k : ℕ) (d : Item) (s t : TraceRun) → k < length items → TracesOn p (item_events (get_or items k d)) s t
    → TracesAfter p (flat_map item_events (take k p.schedule)) s → TracesAfter p (flat_map item_events (take (k + 1) p.schedule)) t
trace_items_more p items same k d s t l f st = subst (λ (ms : List Event). TracesAfter p ms t) (moves_more p items same k d l) (f.stands (flat_map item_events (take k p.schedule)) st)

-- what was written where the schedule has ended
pub trace_ends : (p : Plan) (f c : ℕ) (t : TraceRun) (ms : List Event) → ms ≡ plan_events p → t.form ≡ Events → t.first ≡ f → t.end ≡ f + c → TracesAfter p ms t → string_bytes t.text ≡ trace_text p f c
trace_ends p f c t ms all form first end st =
    let count : t.end - t.first ≡ c = omega (arith, first, end) in
    st.text ∙ (λ i. shown_lines (first i) (count i) (lines_from (line_as (form i) p) p 0 (opening_for p) (all i)))

-- and so of commits
pub commits_end : (p : Plan) (c : ℕ) (t : TraceRun) (ms : List Event) → ms ≡ plan_events p → t.form ≡ Commits → t.first ≡ 0 → t.end ≡ c → TracesAfter p ms t → string_bytes t.text ≡ commits_text p c
commits_end p c t ms all form first end st =
    let count : t.end - t.first ≡ c = omega (arith, first, end) in
    st.text ∙ (λ i. shown_lines (first i) (count i) (lines_from (line_as (form i) p) p 0 (opening_for p) (all i)))
