-- Whole histories: each call keeps that what is seen comes from reached views.
use Rattle.std.proofs.Common.{refl}
use Rattle.labels.specs.Order.{Meaning, Laws}
use Rattle.rules.specs.Book.{Book}
use Rattle.execution.specs.Step.{Answers}
use Rattle.examiner.specs.History.{Side, History, begins, opens, runs, pages, peeks}
use Rattle.examiner.proofs.StandingSides.{SideStands}
use Rattle.examiner.proofs.Opens.{open_keeps}
use Rattle.examiner.proofs.Runs.{Faithful, run_keeps}
use Rattle.examiner.proofs.Pages.{page_keeps}
use Rattle.examiner.proofs.Peeks.{peek_keeps}

module _ (m : Meaning) (laws : Laws m) {E : Type 0} (answers : Answers E) (means : E → Book → Type 0) (faithful : Faithful answers means) where
  pub stands_after : {h : Side} → History m answers means h → SideStands m h
  stands_after begins = record { still_blank = refl; no_page = λ p i. i; no_peek_when_halted = λ x i. absurd i }
  stands_after (opens {h} history given) = open_keeps m h.standing given h.pages h.peeks h.memory (stands_after history)
  stands_after (runs {h} history given gets budget e e' done means_flow run) =
      run_keeps m laws answers means faithful h.standing h.pages h.peeks budget e e' means_flow h.memory given done gets (stands_after history) run
  stands_after (pages {h} history given gets page_list) = page_keeps m h.standing page_list h.pages h.peeks h.memory given gets (stands_after history)
  stands_after (peeks {h} history given gets at) = peek_keeps m h.standing h.pages h.peeks at h.memory given gets (stands_after history)
