-- What a step over an engine that means the flow rules does to the view.
use Rattle.std.proofs.Common.{arith, ◌≡◌, Bool, true, false, List, Some, None, Ok, Err, sym, refl, ap, ◌∙◌, subst}
use Rattle.labels.specs.Order.{Meaning, Laws}
use Rattle.labels.specs.declared.cell.Tag.{Tag}
use Rattle.image.specs.declared.entry.CodeEntry.{CodeEntry}
use Rattle.rules.specs.Class.{class_number}
use Rattle.instructions.specs.declared.instruction.Instruction.{Instruction}
use Rattle.rules.specs.Book.{Verdict, Book}
use Rattle.rules.specs.Rules.{rule}
use Rattle.rules.specs.Flow.{flow, holds}
use Rattle.rules.specs.declared.query.Query.{Query}
use Rattle.rules.proofs.Judged.{Used}
use Rattle.machine.specs.declared.progress.Progress.{Progress}
use Rattle.execution.specs.declared.outcome.End.{End}
use Rattle.machine.specs.Effect.{MachineState, fault, effect, progress}
use Rattle.execution.specs.Step.{Question, Answers, Settles, StepsTo, question, entry_at, instruction_of, outcome, after}
use Rattle.execution.proofs.Asked.{Asked, asked}
use Rattle.execution.proofs.Steps.{ended_unchanged}
use Rattle.execution.proofs.RunsByBook.{Faithful}
use Rattle.observer.specs.Observer.{Downward}
use Rattle.observer.specs.View.{Place, view, seen_frames}
use Rattle.observer.specs.ObserverMachine.{act_decoded, act_entry, act_at, next_view}
use Rattle.observer.specs.ObserverLaws.{has_halted}
use Rattle.observer.proofs.FlowGrants.{GrantedByRule, granted_by_rule}
use Rattle.observer.proofs.Views.{seen_place}
use Rattle.observer.proofs.RuleEffects.{query_by_class, effect_by_rule}
use Rattle.observer.proofs.UnseenSteps.{unseen_effect}
use Rattle.observer.proofs.SeenSteps.{seen_effect}

-- a step that the flow rules granted: the instruction at the pc, with no fault, by its rule
pub record FlowGranted (m : Meaning) (code : List CodeEntry) (s : MachineState) (p : Progress) (s' : MachineState) : Type 0 where
  pub entry : CodeEntry
  pub instruction : Instruction
  pub stands : entry_at code s.held.pc ≡ Some entry
  pub decodes : instruction_of entry ≡ Some instruction
  pub no_fault : fault instruction.class instruction s ≡ None
  pub labels : Used m.label (rule (class_number instruction.class)).mask (query_by_class instruction.class instruction entry.tag s)
  pub condition : holds m (query_by_class instruction.class instruction entry.tag s) (rule (class_number instruction.class)).condition ≡ true
  pub progresses : p ≡ progress instruction.class
  pub changed : s' ≡ effect_by_rule m instruction.class instruction entry.tag s

module _ (m : Meaning) (code : List CodeEntry) (s : MachineState) (p : Progress) (s' : MachineState) where
  by_grant : (i : Instruction) (q : Query) (tags : Tag × Tag) → Asked code s i q → GrantedByRule m q tags → p ≡ progress i.class → s' ≡ effect i.class i tags.0 tags.1 s → FlowGranted m code s p s'
  by_grant i q tags a g on c =
      let k = subst (λ (x : Query). GrantedByRule m x tags) a.about g in
      record {
        entry = a.entry;
        instruction = i;
        stands = a.stands;
        decodes = a.decodes;
        no_fault = a.no_fault;
        labels = k.labels;
        condition = k.condition;
        progresses = on;
        changed = c ∙ ap (λ (x : Tag × Tag). effect i.class i x.0 x.1 s) k.are;
      }

  by_verdict : (i : Instruction) (q : Query) (v : Verdict) → Asked code s i q → v ≡ flow m q → Ok p ≡ outcome i v → s' ≡ after i v s → FlowGranted m code s p s'
  by_verdict i q (Ok tags) a by r c = by_grant i q tags a (granted_by_rule m q tags by) (cc) c
  by_verdict i q (Err x) a by r c = grind arith

module _ {E : Type 0} (answers : Answers E) (means : E → Book → Type 0) (faithful : Faithful answers means) (m : Meaning) (code : List CodeEntry) (s s' : MachineState) (e e' : E) where
  by_question : (x : Question) (p : Progress) → question code s ≡ x → means e (flow m) → Settles answers x s e (Ok p) s' e' → FlowGranted m code s p s'
  by_question (Ok (i, q)) p asks means_flow (v, a, r, c) = by_verdict m code s p s' i q v (asked code s i q asks) (faithful e q v e' (flow m) a means_flow).0 r c
  by_question (Err f) p asks means_flow (r, c, d) = grind arith

  pub flow_granted : (p : Progress) → means e (flow m) → StepsTo answers code s e (Ok p) s' e' → FlowGranted m code s p s'
  flow_granted p means_flow h = by_question (question code s) p refl means_flow h

module _ (m : Meaning) (laws : Laws m) (sees : Tag → Bool) (down : Downward m sees) (code : List CodeEntry) (s s' : MachineState) where
  shown_after : (p : Progress) (g : FlowGranted m code s p s') → view sees (has_halted (Ok p)) s' ≡ view sees (has_halted (Ok (progress g.instruction.class))) (effect_by_rule m g.instruction.class g.instruction g.entry.tag s)
  shown_after p g = ap (λ (x : Progress). view sees (has_halted (Ok x)) s') g.progresses ∙ ap (view sees (has_halted (Ok (progress g.instruction.class)))) g.changed

  -- A granted step under an unseen pc tag leaves the view as it is.
  pub unseen_step : (p : Progress) → FlowGranted m code s p s' → sees s.held.pc_tag ≡ false → view sees (has_halted (Ok p)) s' ≡ view sees false s
  unseen_step p g h = shown_after p g ∙ unseen_effect m laws sees down s g.instruction g.entry.tag g.instruction.class g.no_fault h g.labels g.condition

  -- A granted step under a seen pc tag takes the view to the next view.
  pub seen_step : (p : Progress) → FlowGranted m code s p s' → sees s.held.pc_tag ≡ true → view sees (has_halted (Ok p)) s' ≡ next_view m sees code (view sees false s)
  unfolding next_view
  seen_step p g h =
      let fs = seen_frames sees s.held.frames in
      let v = view sees false s in
      shown_after p g
      ∙ seen_effect m laws sees down s g.instruction g.entry.tag g.instruction.class g.no_fault h g.labels g.condition
      ∙ sym (ap (λ x. act_decoded m sees x g.entry.tag s.held.pc s.held.pc_tag fs v) g.decodes)
      ∙ sym (ap (λ x. act_entry m sees x s.held.pc s.held.pc_tag fs v) g.stands)
      ∙ sym (ap (λ (x : Place). act_at m sees code x v) (seen_place sees s.held.pc s.held.pc_tag fs h))

-- A fault or a violation leaves the view as it is.
pub ended_step : {E : Type 0} (answers : Answers E) (sees : Tag → Bool) (code : List CodeEntry) (s s' : MachineState) (e e' : E) (x : End) → StepsTo answers code s e (Err x) s' e' → view sees false s' ≡ view sees false s
ended_step answers sees code s s' e e' x h = ap (view sees false) (ended_unchanged answers code s s' e e' x h)
