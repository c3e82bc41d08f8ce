use Rattle.std.proofs.Common.{◌≤◌, ◌∙◌, ℕ, List, length, ap, subst, sym, arith}
use Rattle.std.proofs.lemmas.Bool.{false≢true}
use Rattle.scenario_values.specs.Scenario.{is_name}
use Rattle.campaign_core.proofs.TargetLawsLemmas.Names.{lawful_at, short_at, text_at}
use Rattle.campaign_core.proofs.target_laws.catalogue.name_fault.Goals as goal

pub returns-then-name-gt-MOST_BYTES-clause-lawful : goal.returns-then-name-gt-MOST_BYTES-clause-lawful
returns-then-name-gt-MOST_BYTES-clause-lawful c = λ is. absurd (omega (arith, short_at c.args.names.now c.args.place is c.requires, c.if-name-gt-MOST_BYTES.true))

pub returns-then-not-is_name-clause-lawful : goal.returns-then-not-is_name-clause-lawful
returns-then-not-is_name-clause-lawful c = λ is. absurd (false≢true (sym c.if-not-is_name.true ∙ c.is_name.ensures ∙ lawful_at c.args.names.now c.args.place is c.requires))

pub returns-then-is_repeated-clause-lawful : goal.returns-then-is_repeated-clause-lawful
returns-then-is_repeated-clause-lawful c = λ is. absurd (false≢true (sym (c.is_repeated.ensures.lawful is) ∙ c.if-is_repeated.true))

pub returns-clause-only : goal.returns-clause-only
returns-clause-only c = λ only.
    let name = text_at c.args.names.now c.args.place in
    record {
      short = subst (λ (x : List ℕ). length x ≤ 200) (sym name) (omega (arith, c.if-name-gt-MOST_BYTES.false));
      lawful = ap is_name name ∙ sym c.is_name.ensures ∙ c.if-not-is_name.false;
      new = c.is_repeated.ensures.new c.if-is_repeated.false;
    }
