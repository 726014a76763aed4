-- The image of what a plan's schedule leaves is that of the run of which `play` prints the report.
use Rattle.std.proofs.Common.{◌≡◌, ℕ, ◌+◌, ◌<◌, ◌≤◌, List, get_or, refl, sym, ap, subst, ◌∙◌, arith}
use Rattle.of_cell.specs.Words.{seq_of}
use Rattle.of_cell.specs.Cells.{data_cell, durable_place}
use Rattle.of_mem.proofs.Lists.{part_at}
use Rattle.of_recover.specs.Recovered.{recovered_words}
use Rattle.of_plan.specs.Plan.{Plan}
use Rattle.of_plan.specs.Ended.{Ended}
use Rattle.of_plan.specs.Report.{Report, empty_start}
use Rattle.of_eval.specs.Record.{plan_data_cells, IsLawfulRecord}
use Rattle.of_core.specs.Laws.{RecoveredRowsMayStart}
use Rattle.of_core.specs.Starts.{IsDurable, IsStartRow}
use Rattle.of_core.specs.Events.{zero_start}
use Rattle.of_caller.specs.Tables.{plan_setup, IsLawfulFor}
use Rattle.of_caller.specs.Left.{moment_after}
use Rattle.of_report.proofs.Recovery.{row_long, row_at}
use Rattle.of_image.specs.declared.version.Version.TheVariants.{Two}
use Rattle.of_image.specs.ImageText.{image_text, SpellsImage}
use Rattle.of_image.specs.RunImage.{durable_row, HasOwnerAndNoneNewer, RecordsHaveImages}
use Rattle.of_play.specs.Play.{IsPlayed, play_events}
use Rattle.of_play.specs.Played.{IsPlayedReport}
use Rattle.of_report.specs.Image.{Image}
use Rattle.of_image.specs.Parsed.{OneImage}
use Rattle.of_lives.specs.Restarts.{LivesRestart}
use Rattle.of_lives.specs.Continuing.{LeavesImage}
use Rattle.of_lives.proofs.LeftImages.{left_image, row_durable}
use Rattle.of_tool.specs.PlayedImage.{ShowsRun, IsPlayedImage, ShowsEachPlay}
use Rattle.of_play.proofs.PlaysMoments.{IsPlayable, good_moment}
use Rattle.of_play.proofs.PlaysSchedule.{play_is_schedule, play_of_plan}
use Rattle.of_play.proofs.PlaysRecords.{run_here}
use Rattle.of_play.proofs.PlaysSpent.{play_spent_last, play_stays}

module _ (p : Plan) (play : IsPlayable p) (restarts : RecoveredRowsMayStart (plan_setup p) (IsLawfulFor p)) where
  -- what recovery leaves of the durable words is a row from which a table may start
  module _ (f : Ended) (played : IsPlayed p f) (r : Report) (lawful : IsLawfulRecord p (empty_start p) f r) where
    abbrev N : ℕ
    N = p.callers

    abbrev M : ℕ
    M = plan_data_cells p

    abbrev ws : List ℕ
    ws = (durable_row p f).words

    durable : IsDurable (plan_setup p) (moment_after p (play_events p)).words (durable_row p f).words
    durable = record {
      long = row_long N M f.words ws lawful.words refl;
      each = λ c l. row_at N M f.words ws refl c l ∙ ap (λ (l : List ℕ). get_or l (durable_place N M c) 0) played.words;
    }

    starts : IsStartRow (plan_setup p) (IsLawfulFor p) (recovered_words N M ws)
    starts = (restarts (zero_start (plan_setup p)) (moment_after p (play_events p)) (good_moment p play (play_events p) (play_is_schedule p play)) ws durable).0

    none_newer : (a : ℕ) → a < M → seq_of (get_or (recovered_words N M ws) (data_cell N a) 0) ≤ seq_of (get_or (recovered_words N M ws) 0 0)
    none_newer a l =
        let here : data_cell N 0 + a ≡ data_cell N a = omega arith in
        let same = part_at (recovered_words N M ws) (data_cell N 0) M a l ∙ ap (λ (n : ℕ). get_or (recovered_words N M ws) n 0) here in
        subst (λ (w : ℕ). seq_of w ≤ seq_of (get_or (recovered_words N M ws) 0 0)) same (starts.may_start.start.old a)

    pub may_restart : HasOwnerAndNoneNewer p f
    may_restart = record { owned = starts.may_start.start.owner_in; none_newer = none_newer }

  -- all runs of the schedule leave the same words
  same_rows : (e f : Ended) → IsPlayed p e → IsPlayed p f → durable_row p e ≡ durable_row p f
  same_rows e f h k = ap (λ (l : List ℕ). durable_row p (record e { words = l })) (h.words ∙ sym k.words)

  module _ (images : RecordsHaveImages) (restart : LivesRestart) (one_image : OneImage) where
    -- what recovery finds in the durable words is an image that starts where the report ends
    left : (f : Ended) → IsPlayed p f → (r : Report) → IsLawfulRecord p (empty_start p) f r → (next : Image) × LeavesImage p (empty_start p) f r next
    left f played r lawful =
        let run = run_here p play (play_events p) (play_is_schedule p play) (play_of_plan p play) (play_spent_last p play (play_is_schedule p play)) (play_stays p) f played in
        left_image p (empty_start p) f r lawful.words
        (restart p (empty_start p) (zero_start (plan_setup p)) (moment_after p (play_events p)) f run r lawful (durable_row p f).words (row_durable p f lawful.words))

    -- the text of the durable words of a run of the schedule is the image of each of its reports
    pub shows_run : (e f : Ended) → IsPlayed p e → IsPlayed p f → (r : Report) → IsLawfulRecord p (empty_start p) f r → (text : List ℕ) → text ≡ image_text Two (durable_row p e) → SpellsImage Two text (durable_row p e) → ShowsRun p f r text
    shows_run e f played other r lawful text is spelled =
        let rows = same_rows e f played other in
        let here : SpellsImage Two text (durable_row p f) = subst (SpellsImage Two text) rows spelled in
        let image = images p (empty_start p) f r play.plan lawful (may_restart f other r lawful) text (is ∙ ap (image_text Two) rows) here in
        let next = left f other r lawful in
        let same = one_image Two text next.0 image.image (record { raw = durable_row p f; spelled = here; restored = next.1.restored }) image.reads in
        record { spelled = here; image = image; leaves = subst (LeavesImage p (empty_start p) f r) same next.1 }

    pub played_image : (e : Ended) → IsPlayed p e → (r : Report) → IsPlayedReport p r → (text : List ℕ) → text ≡ image_text Two (durable_row p e) → SpellsImage Two text (durable_row p e) → IsPlayedImage p text
    played_image e played r report text is spelled = record {
      report = r;
      played = report;
      shows = shows_run e report.run played report.played r report.reports.lawful text is spelled;
    }

    -- and so of each report that `play` prints
    pub shows_each : ShowsEachPlay p
    shows_each text h r other = shows_run h.played.run other.run h.played.played other.played r other.reports.lawful text h.shows.image.text_is h.shows.spelled
