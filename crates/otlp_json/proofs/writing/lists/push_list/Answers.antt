use Rattle.std.proofs.Common.{◌++◌, ◌∙◌, List, ℕ, codes, sym, ap}
use Rattle.otlp_json.specs.Adding.{listed}
use Rattle.otlp_json.proofs.Words.{three_pushed, text_of-list}
use Rattle.otlp_json.proofs.writing.lists.push_list.Goals as goal

pub returns : goal.returns
returns g c =
    let json = g.T.ToJson.json in
    three_pushed c.args.out.now.items (codes "[") (listed json c.args.items.now) (codes "]") _ _ _ c.in_ok-push.ensures.items c.in_ok-push_items.ensures c.in_ok-push-2.ensures.items
    ∙ ap (λ (t : List ℕ). c.args.out.now.items ++ t) (sym (text_of-list json c.args.items.now))
