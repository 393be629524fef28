-- What is shown where a call of a session is refused, and where all are granted; and that the three calls in one come to it.
use Rattle.std.proofs.Common.{◌≡◌, ℕ, Bool, List, length, Some, None, Ok, Err, Option, Result, sym, refl, ap, ◌∙◌}
use Rattle.std.proofs.lemmas.List.{take_at}
use Rattle.labels.specs.Order.{Meaning}
use Rattle.labels.specs.declared.cell.Cell.{Cell}
use Rattle.labels.specs.declared.refusal.Refusal.{Refusal}
use Rattle.image.specs.Load.{answer, unless_refused}
use Rattle.rules.specs.Flow.{flow}
use Rattle.cache.specs.declared.rule_cache.Counts.{Counts}
use Rattle.viewing.specs.declared.page.Page.{Page}
use Rattle.sitting.specs.Sitting.{Standing}
use Rattle.sitting.specs.Open.{after_call, Opened, opened}
use Rattle.sitting.specs.Run.{RunDone, sitting_run_by}
use Rattle.observer.specs.Visible.{written_over}
use Rattle.viewing.specs.Page.{reader_of, visible_outputs, has_end_mark, page_refusal, page_answer, page_written}
use Rattle.examiner.specs.Examined.{memory, SideDone, paged_after, examined_unless, examined_by}
use Rattle.screen.specs.Screen.{Shown, shown_of, Session, session, and_then, paged, run_and_paged, session_in, report_of, report_shown}

-- what a page shows with its list
abbrev pub page_shown : Standing → Counts → Result Page Refusal → List Cell → Result Shown Refusal
page_shown s counts (Ok p) list = Ok (report_shown (report_of s p counts) list)
page_shown s counts (Err refusal) list = Err refusal

-- and what the calls on a sitting show, made in one
abbrev pub side_shown : Counts → SideDone → Session
side_shown counts d = session (page_shown d.sitting counts d.answered d.page) d.sitting

module _ (m : Meaning) (budget : ℕ) (image : List ℕ) (page : List Cell) where
  -- The page's answer and its list are what is shown.
  shown_is_paged : (s : Standing) (cells outputs : List Cell) (counts : Counts) (r : Result Page Refusal) (list : List Cell) → r ≡ page_answer m s image cells outputs page → list ≡ page_written m s image cells outputs page → page_shown s counts r list ≡ paged m s image cells outputs page
  shown_is_paged s cells outputs counts r list = by_refusal (page_refusal m s image cells outputs page)
    where
      visible : List Cell
      visible = visible_outputs (reader_of m s) s outputs

      mark : Bool
      mark = has_end_mark (reader_of m s) s

      granted : Page
      granted = record { outputs = length visible; end_mark = mark }

      by_refusal : (o : Option Refusal) → r ≡ answer o granted → list ≡ unless_refused o page (written_over visible page) → page_shown s counts r list ≡ answer o (shown_of s visible page mark)
      by_refusal (Some refusal) h w = ap (λ r. page_shown s counts r list) h
      by_refusal None h w =
          ap (λ r. page_shown s counts r list) h
          ∙ ap (page_shown s counts (Ok granted)) w
          ∙ ap (λ (v : List Cell). Ok (record { visible = v; page = written_over visible page; outputs = length visible; end_mark = mark; state = s.state; pc = s.machine.pc; steps = s.machine.steps })) (take_at visible _ _ refl)

  module _ (cells outputs : List Cell) (s s₁ : Standing) (cells₁ : List Cell) where
    abbrev OpeningCameTo : Result (Unit {0}) Refusal → Type 0
    OpeningCameTo r = after_call r s₁ cells₁ ≡ opened m s image cells (length outputs)

    -- what the session comes to follows from what the opening came to
    from_opening : (r : Result (Unit {0}) Refusal) → OpeningCameTo r → run_and_paged m budget (after_call r s₁ cells₁) image outputs page ≡ session_in m budget s image cells outputs page
    unfolding session_in
    from_opening r h = ap (λ o. run_and_paged m budget o image outputs page) h

    pub opening_refused : (refusal : Refusal) → OpeningCameTo (Err refusal) → session (Err refusal) s₁ ≡ session_in m budget s image cells outputs page
    opening_refused refusal h = from_opening (Err refusal) h

    module _ (granted : OpeningCameTo (Ok tt)) (done : RunDone) (by : done ≡ sitting_run_by (flow m) s₁ image cells₁ outputs budget) where
      abbrev after_run : RunDone → Result ℕ Refusal → Session
      after_run r answered = and_then answered r.sitting (session (paged m r.sitting image r.cells r.outputs page) r.sitting)

      -- and from what the run came to
      from_run : (answered : Result ℕ Refusal) → done.answered ≡ answered → after_run done answered ≡ session_in m budget s image cells outputs page
      from_run answered h =
          sym (ap (after_run done) h) ∙ ap (λ (r : RunDone). after_run r r.answered) by ∙ from_opening (Ok tt) granted

      pub run_refused : (refusal : Refusal) → done.answered ≡ Err refusal → session (Err refusal) done.sitting ≡ session_in m budget s image cells outputs page
      run_refused refusal h = from_run (Err refusal) h

      pub paged_after_run : (n : ℕ) (counts : Counts) (r : Result Page Refusal) (list : List Cell) → done.answered ≡ Ok n → r ≡ page_answer m done.sitting image done.cells done.outputs page → list ≡ page_written m done.sitting image done.cells done.outputs page → session (page_shown done.sitting counts r list) done.sitting ≡ session_in m budget s image cells outputs page
      paged_after_run n counts r list h is written =
          ap (λ x. session x done.sitting) (shown_is_paged done.sitting done.cells done.outputs counts r list is written)
          ∙ from_run (Ok n) h

-- The calls in one, by the flow rules, come to the session.
module _ (m : Meaning) (budget : ℕ) (image : List ℕ) (page : List Cell) (counts : Counts) (cells outputs : List Cell) (s : Standing) where
  abbrev o : Opened
  o = opened m s image cells (length outputs)

  abbrev done : RunDone
  done = sitting_run_by (flow m) o.sitting image o.cells outputs budget

  abbrev paged_then : Session
  paged_then = session (paged m done.sitting image done.cells done.outputs page) done.sitting

  by_run : (r : Result ℕ Refusal) → side_shown counts (paged_after r m image page done) ≡ and_then r done.sitting paged_then
  by_run (Ok n) = ap (λ x. session x done.sitting) (shown_is_paged m budget image page done.sitting done.cells done.outputs counts _ _ refl refl)
  by_run (Err refusal) = refl

  by_open : (r : Result (Unit {0}) Refusal) → side_shown counts (examined_unless r (flow m) m o (memory image cells outputs) page budget) ≡ and_then r o.sitting (and_then done.answered done.sitting paged_then)
  by_open (Ok u) = by_run done.answered
  by_open (Err refusal) = refl

  pub examined_is_session : side_shown counts (examined_by (flow m) m s (memory image cells outputs) page budget) ≡ session_in m budget s image cells outputs page
  unfolding session_in
  examined_is_session = by_open o.answered
