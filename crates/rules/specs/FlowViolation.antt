-- The violation of each reason.
use Rattle.rules.specs.Flow.{violation}
use Rattle.rules.specs.declared.violation.Violation.{Violation}
use Rattle.rules.specs.declared.flow_violation.FlowViolation.{FlowViolation}
use Rattle.rules.specs.declared.flow_violation.FlowViolation.TheVariants.{NotALabel, NoFlowToRegister, NoFlowToCell, NoSuchClass}

abbrev pub violated : FlowViolation → Violation
violated NotALabel = violation 1 tt
violated NoFlowToRegister = violation 2 tt
violated NoFlowToCell = violation 3 tt
violated NoSuchClass = violation 4 tt
