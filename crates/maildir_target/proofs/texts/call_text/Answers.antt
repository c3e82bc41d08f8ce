use Rattle.std.proofs.Common.{◌≡◌, ◌++◌, List, ℕ, codes, string_bytes, IfOk, sym, ◌∙◌, subst, append_assoc}
use Rattle.std.proofs.lemmas.Result.{IfOk-weaker}
use Rattle.std.specs.Fmt.{decimal}
use Rattle.sim_device.specs.declared.pending.Call.{Call}
use Rattle.maildir_target.specs.Words.{name_text}
use Rattle.maildir_target.specs.Crash.{call_text}
use Rattle.maildir_target.proofs.texts.call_text.Goals as goal

regroup : (word name space last : List ℕ) → word ++ (name ++ (space ++ last)) ≡ word ++ name ++ space ++ last
regroup word name space last = sym (append_assoc (word ++ name) space last ∙ append_assoc word name (space ++ last))

pub returns-in-Append : goal.returns-in-Append
returns-in-Append c =
    let r = c.format-in-Append.result in
    let name = name_text c.in-Append.name in
    let place = decimal c.in-Append.place in
    subst (λ (x : Call). IfOk r (λ text. string_bytes text ≡ call_text x)) (sym c.in-Append.is)
    (IfOk-weaker r (λ text. string_bytes text ≡ codes "append " ++ (name ++ (codes " " ++ place))) (λ text. string_bytes text ≡ codes "append " ++ name ++ codes " " ++ place)
    (λ text is. is ∙ regroup (codes "append ") name (codes " ") place) c.format-in-Append.ensures.ok)

pub returns-in-WriteAt : goal.returns-in-WriteAt
returns-in-WriteAt c =
    let r = c.format-in-WriteAt.result in
    let name = name_text c.in-WriteAt.name in
    let place = decimal c.in-WriteAt.place in
    subst (λ (x : Call). IfOk r (λ text. string_bytes text ≡ call_text x)) (sym c.in-WriteAt.is)
    (IfOk-weaker r (λ text. string_bytes text ≡ codes "write " ++ (name ++ (codes " " ++ place))) (λ text. string_bytes text ≡ codes "write " ++ name ++ codes " " ++ place)
    (λ text is. is ∙ regroup (codes "write ") name (codes " ") place) c.format-in-WriteAt.ensures.ok)

pub returns-in-Truncate : goal.returns-in-Truncate
returns-in-Truncate c =
    let r = c.format-in-Truncate.result in
    let name = name_text c.in-Truncate.name in
    let count = decimal c.in-Truncate.count in
    subst (λ (x : Call). IfOk r (λ text. string_bytes text ≡ call_text x)) (sym c.in-Truncate.is)
    (IfOk-weaker r (λ text. string_bytes text ≡ codes "truncate " ++ (name ++ (codes " " ++ count))) (λ text. string_bytes text ≡ codes "truncate " ++ name ++ codes " " ++ count)
    (λ text is. is ∙ regroup (codes "truncate ") name (codes " ") count) c.format-in-Truncate.ensures.ok)

pub returns-in-Rename : goal.returns-in-Rename
returns-in-Rename c =
    let r = c.format-in-Rename.result in
    let from = name_text c.in-Rename.from in
    let to = name_text c.in-Rename.to in
    subst (λ (x : Call). IfOk r (λ text. string_bytes text ≡ call_text x)) (sym c.in-Rename.is)
    (IfOk-weaker r (λ text. string_bytes text ≡ codes "rename " ++ (from ++ (codes " " ++ to))) (λ text. string_bytes text ≡ codes "rename " ++ from ++ codes " " ++ to)
    (λ text is. is ∙ regroup (codes "rename ") from (codes " ") to) c.format-in-Rename.ensures.ok)

pub returns-in-Link : goal.returns-in-Link
returns-in-Link c =
    let r = c.format-in-Link.result in
    let from = name_text c.in-Link.from in
    let to = name_text c.in-Link.to in
    subst (λ (x : Call). IfOk r (λ text. string_bytes text ≡ call_text x)) (sym c.in-Link.is)
    (IfOk-weaker r (λ text. string_bytes text ≡ codes "link " ++ (from ++ (codes " " ++ to))) (λ text. string_bytes text ≡ codes "link " ++ from ++ codes " " ++ to)
    (λ text is. is ∙ regroup (codes "link ") from (codes " ") to) c.format-in-Link.ensures.ok)
