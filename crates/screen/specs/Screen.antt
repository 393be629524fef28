-- What the program shows of an image.
use Rattle.std.specs.Prelude.{ℕ, Bool, cond, List, length, take, replicate, Ok, Err, vec_items, Result, nat_le}
use Rattle.labels.specs.Order.{Meaning}
use Rattle.labels.specs.declared.cell.Cell.{Cell}
use Rattle.labels.specs.declared.refusal.Refusal.{Refusal}
use Rattle.image.specs.Layout.{header_of}
use Rattle.image.specs.Load.{answer}
use Rattle.rules.specs.Flow.{flow}
use Rattle.cache.specs.declared.rule_cache.Counts.{Counts}
use Rattle.machine.specs.Machine.{zero_cell}
use Rattle.observer.specs.Visible.{written_over}
use Rattle.sitting.specs.declared.sitting.State.{State}
use Rattle.viewing.specs.declared.page.Page.{Page}
use Rattle.sitting.specs.Sitting.{Standing, blank}
use Rattle.sitting.specs.Open.{Opened, opened, order_found}
use Rattle.sitting.specs.Run.{RunDone, sitting_run_by}
use Rattle.viewing.specs.Page.{reader_of, visible_outputs, has_end_mark, page_refusal}
use Rattle.screen.specs.declared.session.Report.{Report}
use Rattle.screen.specs.declared.screen.Screen.{Screen}

-- What is shown of a sitting, but for the counts of its cache: its page, its state, pc and steps.
pub record Shown : Type 0 where
  pub visible : List Cell
  -- the page list, and how many visible outputs stand at its front
  pub page : List Cell
  pub outputs : ℕ
  pub end_mark : Bool
  pub state : State
  pub pc : ℕ
  pub steps : ℕ

abbrev pub shown_of : Standing → List Cell → List Cell → Bool → Shown
shown_of s visible page mark = record { visible = visible; page = written_over visible page; outputs = length visible; end_mark = mark; state = s.state; pc = s.machine.pc; steps = s.machine.steps }

-- what a session comes to: what is shown, and where its sitting then stands
pub record Session : Type 0 where
  pub shown : Result Shown Refusal
  pub sitting : Standing

abbrev pub session : Result Shown Refusal → Standing → Session
session shown s = record { shown = shown; sitting = s }

-- a call that is refused is the last one
abbrev pub and_then : {A : Type 0} → Result A Refusal → Standing → Session → Session
and_then (Ok a) s next = next
and_then (Err refusal) s next = session (Err refusal) s

-- what is shown of a sitting that is paged
abbrev pub paged : Meaning → Standing → List ℕ → List Cell → List Cell → List Cell → Result Shown Refusal
paged m s image cells outputs page =
    answer (page_refusal m s image cells outputs page)
    (shown_of s (visible_outputs (reader_of m s) s outputs) page (has_end_mark (reader_of m s) s))

-- after an opening the sitting is run by the flow rules and paged
abbrev pub run_and_paged : Meaning → ℕ → Opened → List ℕ → List Cell → List Cell → Session
run_and_paged m budget o image outputs page =
    let r : RunDone = sitting_run_by (flow m) o.sitting image o.cells outputs budget in
    and_then o.answered o.sitting
    (and_then r.answered r.sitting (session (paged m r.sitting image r.cells r.outputs page) r.sitting))

-- A session in an order: a sitting is opened with an image, run with a budget, and paged.
unfoldable pub session_in : Meaning → ℕ → Standing → List ℕ → List Cell → List Cell → List Cell → Session
session_in m budget s image cells outputs page = run_and_paged m budget (opened m s image cells (length outputs)) image outputs page

abbrev pub session_if_found : Result Meaning Refusal → ℕ → Standing → List ℕ → List Cell → List Cell → List Cell → Session
session_if_found (Ok m) budget s image cells outputs page = session_in m budget s image cells outputs page
session_if_found (Err refusal) budget s image cells outputs page = session (Err refusal) s

-- A session in the order that the image's header names, of 100,000 steps at most.
abbrev pub image_session : Standing → List ℕ → List Cell → List Cell → List Cell → Session
image_session s image cells outputs page = session_if_found (order_found s image) 100000 s image cells outputs page

-- how many cells the header asks for; none if there is no header
abbrev pub cells_wanted : List ℕ → ℕ
cells_wanted image = cond (nat_le 8 (length image)) (header_of image).counts.cells 0

-- There is memory for as many cells as the header asks for, and for 256 outputs.
abbrev pub screen_session : Standing → List ℕ → Session
screen_session s image = image_session s image (replicate (cells_wanted image) zero_cell) (replicate 256 zero_cell) (replicate 256 zero_cell)

-- What is shown of an image in an order: a new sitting is opened, run with a budget, and paged.
abbrev pub sitting_shown : Meaning → ℕ → List ℕ → List Cell → List Cell → List Cell → Result Shown Refusal
sitting_shown m budget image cells outputs page = (session_in m budget blank image cells outputs page).shown

abbrev pub shown_in : Result Meaning Refusal → ℕ → List ℕ → List Cell → List Cell → List Cell → Result Shown Refusal
shown_in (Ok m) budget image cells outputs page = sitting_shown m budget image cells outputs page
shown_in (Err refusal) budget image cells outputs page = Err refusal

-- What is shown of an image in the order that its header names, of 100,000 steps at most.
abbrev pub image_shown : List ℕ → List Cell → List Cell → List Cell → Result Shown Refusal
image_shown image cells outputs page = shown_in (order_found blank image) 100000 image cells outputs page

-- the same in the memory that there is
abbrev pub screen_of : List ℕ → Result Shown Refusal
screen_of image = image_shown image (replicate (cells_wanted image) zero_cell) (replicate 256 zero_cell) (replicate 256 zero_cell)

-- how a sitting stands, with its page and the counts of its cache
abbrev pub report_of : Standing → Page → Counts → Report
report_of s page counts = record { page = page; state = s.state; pc = s.machine.pc; steps = s.machine.steps; cache = counts }

-- what a report shows with its page list
abbrev pub report_shown : Report → List Cell → Shown
report_shown r page = record { visible = take r.page.outputs page; page = page; outputs = r.page.outputs; end_mark = r.page.end_mark; state = r.state; pc = r.pc; steps = r.steps }

abbrev pub report_with : Result Report Refusal → List Cell → Result Shown Refusal
report_with (Ok r) page = Ok (report_shown r page)
report_with (Err refusal) page = Err refusal

-- what stands on a screen, but for the counts
abbrev pub shown_on : Screen → Result Shown Refusal
shown_on s = report_with s.report (vec_items s.page)
