use Rattle.std.proofs.Common.{◌≡◌, ◌∙◌, [], Ok, sym, ap, arith}
use Rattle.std.proofs.lemmas.List.{append-nil, nil_from_length}
use Rattle.std.proofs.lemmas.List.Elements.{All-push}
use Rattle.ottl_lex.specs.Tokens.{tokens_of, IsWithin}
use Rattle.ottl_lex.proofs.Cuts.{tokens-cut}
use Rattle.ottl_lex.proofs.Loop.{tokens-step}
use Rattle.ottl_lex.proofs.lexer.lex.Goals as goal

-- a token is passed
pub tokens-preserved : goal.tokens-preserved
tokens-preserved c =
    let here = c.tokens in
    let token = c.in_ok-token.token in
    let solid = sym c.is_blank.ensures ∙ c.if-is_blank.false in
    let back = c.split_at.ensures.back in
    let pushed = c.in_ok-push.ensures.ok in
    record {
      reads = rw (pushed, back) (tokens-step here.tokens here.at here.rest.now (tokens_of c.args.text.now) token c.in-len1-up.len_at_least solid c.in_ok-token.ensures.value c.in_ok-token.ensures.within.1 here.invariant.reads);
      within = rw pushed (All-push (IsWithin c.args.text.now) here.tokens token here.invariant.within (omega (arith, c.in_ok-token.ensures.within.0, c.in_ok-token.ensures.within.1), omega (arith, c.in_ok-token.ensures.within.2, here.invariant.room)));
      room = omega (arith, c.split_at.ensures.back_len, c.in_ok-token.ensures.within.1, c.in_ok-token.ensures.within.2);
    }

pub returns-clause-cut : goal.returns-clause-cut
returns-clause-cut c =
    let here = c.tokens in
    let none : here.rest.now ≡ [] = nil_from_length here.rest.now (omega (arith, c.in_default.len_below)) in
    let all = rw none at here.invariant.reads in
    tokens-cut c.args.text.now here.tokens c.utf8.text (sym all ∙ ap Ok (append-nil here.tokens))
