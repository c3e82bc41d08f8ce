use Rattle.std.proofs.Common.{◌≡◌, ◌+◌, ◌++◌, List, ℕ, codes, string_bytes, ap, sym, ◌∙◌, append_assoc}
use Rattle.std.proofs.lemmas.Result.{IfOk-weaker}
use Rattle.std.specs.Fmt.{decimal}
use Rattle.commit_target.specs.Words.{party_text}
use Rattle.commit_target.specs.Crash.{call_text}
use Rattle.commit_target.proofs.texts.call_text.Goals as goal

regroup : (word party space kind number : List ℕ) → word ++ (party ++ (space ++ (kind ++ (space ++ number)))) ≡ word ++ party ++ space ++ kind ++ space ++ number
regroup word party space kind number =
    sym
    (append_assoc (word ++ party ++ space ++ kind) space number ∙ append_assoc (word ++ party ++ space) kind (space ++ number)
    ∙ append_assoc (word ++ party) space (kind ++ (space ++ number))
    ∙ append_assoc word party (space ++ (kind ++ (space ++ number))))

pub returns : goal.returns
returns c =
    let p = c.args.pending in
    let party = party_text p.party in
    let number = decimal (p.entry.transaction + 1) in
    let said : List ℕ → List ℕ = λ kind. codes "append " ++ (party ++ (codes " " ++ (kind ++ (codes " " ++ number)))) in
    IfOk-weaker c.format.result (λ text. string_bytes text ≡ said c.kind_text-kind.result.now) (λ text. string_bytes text ≡ call_text p)
    (λ text is. is ∙ ap said c.kind_text-kind.ensures ∙ regroup (codes "append ") party (codes " ") _ number) c.format.ensures.ok
