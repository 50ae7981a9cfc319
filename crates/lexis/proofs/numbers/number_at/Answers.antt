use Rattle.std.proofs.Common.{◌≡◌, ◌+◌, length, get_or, sym, ap, ◌∙◌, subst, arith, ltb-true}
use Rattle.lexis.specs.Tokens.{Lexed, start}
use Rattle.lexis.specs.declared.tokens.Token.TheVariants.{Word}
use Rattle.lexis.proofs.Words.{unworded, number_none, number_short, number_unended, stops_here, stops_after}
use Rattle.lexis.proofs.numbers.number_at.Goals as goal
use Rattle.lexis.proofs.numbers.number_at.Goals.{In-Word, in_default-after-via-then-after-lt1, in_default-after-via-in-len1-up+else-c-stop}

pub returns-in_default : goal.returns-in_default
returns-in_default c = stops_here _ _ _ _ c.column-column.ensures (number_none _ _ _ (omega arith) _ (unworded _ _ _ (rw c.rest.ensures at c.next_token.ensures.cuts) c.in_default.not-Word))

-- the word, and its column
worded : (c : In-Word) → Lexed c.args.reader.now.rest.now (Word c.in-Word.text c.in-Word.at) c.next_token.result.1.now
worded c = rw c.rest.ensures at (subst (λ t. Lexed c.rest.result.now t c.next_token.result.1.now) c.in-Word.is c.next_token.ensures.cuts)

placed : (c : In-Word) → c.in-Word.at ≡ c.args.reader.now.column
placed c = sym (ap start c.in-Word.is) ∙ c.next_token.ensures.at ∙ c.column-column.ensures

pub returns-then-front-text : goal.returns-then-front-text
returns-then-front-text c =
    let d = (goal.at.returns-then-front-text c).In-Word in
    let w = worded d in
    let l = c.leading-front.ensures in
    stops_after _ _ _ _ _ _ _ (ap (λ k. k + c.leading-front.result.digits) (placed d)) w.0 l.within (number_short _ _ _ (omega arith) _ _ _ _ _ w.0 l c.if-front-text.true w.2)

pub returns-in_default-after : goal.returns-in_default-after
returns-in_default-after c =
    let d = (goal.at.returns-in_default-after c).In-Word in
    let w = worded d in
    let l = c.leading-front.ensures in
    stops_after _ _ _ _ _ _ _ (ap (λ k. k + c.leading-front.result.digits) (placed d)) w.0 l.within
    (number_unended _ _ _ (omega arith) _ _ _ _ _ w.0 l w.1 c.if-front-text.false w.3
    (elim c.in_default-after.branch [
      | in_default-after-via-then-after-lt1 v ↦ λ b z e f. let n : length c.next_token.result.1.now ≡ 1 + length z = ap length e ∙ omega arith in omega (arith, ltb-true)
      | in_default-after-via-in-len1-up+else-c-stop v ↦ λ b z e f. v.if-c-stop.false (ap (λ l. get_or l 0 0) e ∙ f ∙ sym c.byte-stop.ensures)
    ]))
