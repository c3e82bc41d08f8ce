use Rattle.std.proofs.Common.{◌≤◌, length, List, ap, sym, subst, ◌∙◌, arith}
use Rattle.std.specs.List.{slice_range}
use Rattle.scenario_values.specs.declared.term.Term.{Term}
use Rattle.action_eval.specs.Answers.{texts}
use Rattle.action_eval.specs.RiggedScenario.{Rigged}
use Rattle.action_eval.specs.inside.Laid.{laid}
use Rattle.action_eval.specs.inside.Session.{terms_of}
use Rattle.action_eval.proofs.Spans.{laid_part, laid_within}
use Rattle.action_eval.proofs.fault_table.FaultTable.terms.Goals as goal

pub offset_bounds-deref-start : goal.offset_bounds-deref-start
offset_bounds-deref-start c =
    let within : c.args.end ≤ length (terms_of (laid (texts c.self.inside.catalogue.now) c.self.inside.sizes.items c.self.inside.terms.items)) = subst (λ (r : Rigged). c.args.end ≤ length (terms_of r.scenario)) (sym c.self.view_is) c.requires.within in
    omega (arith, within, c.requires.ordered, laid_within _ _ _ c.self.invariant.1, ap length c.deref.ensures.value)

pub slice_bounds-result-end : goal.slice_bounds-result-end
slice_bounds-result-end c =
    let within : c.args.end ≤ length (terms_of (laid (texts c.self.inside.catalogue.now) c.self.inside.sizes.items c.self.inside.terms.items)) = subst (λ (r : Rigged). c.args.end ≤ length (terms_of r.scenario)) (sym c.self.view_is) c.requires.within in
    omega (arith, within, c.requires.ordered, laid_within _ _ _ c.self.invariant.1, ap length c.deref.ensures.value)

pub returns : goal.returns
returns c =
    let within : c.args.end ≤ length (terms_of (laid (texts c.self.inside.catalogue.now) c.self.inside.sizes.items c.self.inside.terms.items)) = subst (λ (r : Rigged). c.args.end ≤ length (terms_of r.scenario)) (sym c.self.view_is) c.requires.within in
    ap (λ (l : List Term). slice_range l c.args.start c.args.end) c.deref.ensures.value
    ∙ laid_part _ _ _ c.args.start c.args.end c.self.invariant.1 c.requires.ordered within
    ∙ ap (λ (r : Rigged). slice_range (terms_of r.scenario) c.args.start c.args.end) c.self.view_is
