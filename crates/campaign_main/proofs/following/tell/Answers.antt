use Rattle.std.proofs.Common.{◌≡◌, ◌∙◌, ◌+◌, ◌<◌, List, ap, drop, length, subst, sym, take, ℕ}
use Rattle.std.specs.List.{concat}
use Rattle.std.specs.Io.KnownBytes.{Appends}
use Rattle.campaign_core.specs.Writes.{WritesPart, change}
use Rattle.campaign_main.specs.inside.Looks.{TellFails, since}
use Rattle.campaign_main.proofs.FollowLemmas.{not-shorter, part-written, rest-written, text-grows}
use Rattle.campaign_main.proofs.following.tell.Goals as goal

pub split_at-requires : goal.split_at-requires
split_at-requires g c =
    let grew = text-grows c.args.told.now.lines.keys c.args.text.now _ _ c.requires.told (c.in_ok-add_all.ensures.text ∙ ap concat c.in_ok-add_all.ensures.lines) in
    rw (c.len-before.ensures, c.args.told.now.text.ok.0, c.as_slice.ensures.value) (not-shorter _ _ grew)

pub returns-in-Ok-clause-written : goal.returns-in-Ok-clause-written
returns-in-Ok-clause-written g c = λ start first.
    let grew = text-grows c.args.told.now.lines.keys c.args.text.now _ _ c.requires.told (c.in_ok-add_all.ensures.text ∙ ap concat c.in_ok-add_all.ensures.lines) in
    rest-written start _ _ _ _ grew first (rw (c.split_at.ensures.back, c.as_slice.ensures.value, c.len-before.ensures, c.args.told.now.text.ok.0) at c.in-Ok.ensures.ok)

pub returns-in-Err-clause-fault : goal.returns-in-Err-clause-fault
returns-in-Err-clause-fault g c =
    let ks = c.args.told.now.lines.keys in
    let old = c.args.told.now.text.items in
    let new = c.add_all.new.self.text.items in
    let n = c.in-Err.fault.written in
    let w = change g.W.Sink c.args.output.now c.write_report.new.sink in
    let whole = c.in_ok-add_all.ensures.text ∙ ap concat c.in_ok-add_all.ensures.lines in
    let grew = text-grows ks c.args.text.now old new c.requires.told whole in
    let at : c.len-before.result ≡ length old = c.len-before.ensures ∙ c.args.told.now.text.ok.0 in
    let rest : c.split_at.result.1.now ≡ drop (length old) new =
    c.split_at.ensures.back ∙ ap (λ (k : ℕ). drop k c.as_slice.result.now) at ∙ ap (drop (length old)) c.as_slice.ensures.value in
    subst (TellFails ks c.args.text.now w) (sym c.from.ensures)
    (λ start first.
    let p = part-written start w.old w.new old new n grew (subst (Appends start w.old) (sym c.requires.told) first)
    (subst (λ (l : List ℕ). Appends w.old w.new (take n l)) rest c.in-Err.ensures.fault) (subst (λ (l : List ℕ). n < length l) rest c.in-Err.ensures.fault_bound) in
    let q : WritesPart new (length old + n) (since start w) = (p.0, p.1, c.in-Err.ensures.fault_cause) in
    subst (λ (l : List ℕ). WritesPart l (c.len-before.result + n) (since start w)) whole
    (subst (λ (k : ℕ). WritesPart new k (since start w)) (sym (ap (λ (k : ℕ). k + n) at)) q))
