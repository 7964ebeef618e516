use Rattle.std.proofs.Common.{◌≤◌, ◌+◌, ◌*◌, ◌==◌, length}
use Rattle.ottl_lex.specs.Codes.{and_word, or_word}
use Rattle.ottl_parse.specs.Place.{past}
use Rattle.ottl_parse.specs.Reading.{inside_of, part, signed_term, is_product_sign, product_sign, is_sum_sign, sum_sign, primary, product, negation, conjunction, disjunction}
use Rattle.ottl_parse.proofs.Turns.{PiecesSoFar}
use Rattle.ottl_parse.proofs.reader.+read.Given as goal

abbrev pub decreases-part_of : goal.decreases-part_of
decreases-part_of l = 16 * l.room + 10

abbrev pub decreases-or_of : goal.decreases-or_of
decreases-or_of l = 16 * l.room + 9

abbrev pub decreases-and_of : goal.decreases-and_of
decreases-and_of l = 16 * l.room + 8

abbrev pub decreases-not_of : goal.decreases-not_of
decreases-not_of l = 16 * l.room + 7

abbrev pub decreases-comparison_of : goal.decreases-comparison_of
decreases-comparison_of l = 16 * l.room + 6

abbrev pub decreases-sum_of : goal.decreases-sum_of
decreases-sum_of l = 16 * l.room + 5

abbrev pub decreases-product_of : goal.decreases-product_of
decreases-product_of l = 16 * l.room + 4

abbrev pub decreases-primary_of : goal.decreases-primary_of
decreases-primary_of l = 16 * l.room + 3

abbrev pub decreases-named_of : goal.decreases-named_of
decreases-named_of l = 16 * l.room + 2

abbrev pub decreases-call_of : goal.decreases-call_of
decreases-call_of l = 16 * l.room + 1

abbrev pub decreases-exprs_of : goal.decreases-exprs_of
decreases-exprs_of l = 16 * l.room

abbrev pub decreases-parts_of : goal.decreases-parts_of
decreases-parts_of l = 16 * l.room

abbrev pub invariant-or_of-operands : goal.invariant-or_of-operands
invariant-or_of-operands l = (length l.cursor.left ≤ length l.initial.cursor.left)
    × PiecesSoFar (λ b. b == or_word) (λ q. conjunction (inside_of l.room) (past q)) l.initial.operands l.initial.cursor l.operands l.cursor

abbrev pub decreases-or_of-operands : goal.decreases-or_of-operands
decreases-or_of-operands l = length l.cursor.left

abbrev pub invariant-and_of-operands : goal.invariant-and_of-operands
invariant-and_of-operands l = (length l.cursor.left ≤ length l.initial.cursor.left)
    × PiecesSoFar (λ b. b == and_word) (λ q. negation (inside_of l.room) (past q)) l.initial.operands l.initial.cursor l.operands l.cursor

abbrev pub decreases-and_of-operands : goal.decreases-and_of-operands
decreases-and_of-operands l = length l.cursor.left

abbrev pub invariant-sum_of-terms : goal.invariant-sum_of-terms
invariant-sum_of-terms l = (length l.cursor.left ≤ length l.initial.cursor.left)
    × PiecesSoFar is_sum_sign (signed_term sum_sign (product (inside_of l.room))) l.initial.terms l.initial.cursor l.terms l.cursor

abbrev pub decreases-sum_of-terms : goal.decreases-sum_of-terms
decreases-sum_of-terms l = length l.cursor.left

abbrev pub invariant-product_of-terms : goal.invariant-product_of-terms
invariant-product_of-terms l = (length l.cursor.left ≤ length l.initial.cursor.left)
    × PiecesSoFar is_product_sign (signed_term product_sign (primary (inside_of l.room))) l.initial.terms l.initial.cursor l.terms l.cursor

abbrev pub decreases-product_of-terms : goal.decreases-product_of-terms
decreases-product_of-terms l = length l.cursor.left

abbrev pub invariant-exprs_of-exprs : goal.invariant-exprs_of-exprs
invariant-exprs_of-exprs l = (length l.cursor.left ≤ length l.initial.cursor.left)
    × PiecesSoFar (λ b. b == 44) (λ q. disjunction (inside_of l.inside) (past q)) l.initial.exprs l.initial.cursor l.exprs l.cursor

abbrev pub decreases-exprs_of-exprs : goal.decreases-exprs_of-exprs
decreases-exprs_of-exprs l = length l.cursor.left

abbrev pub invariant-parts_of-parts : goal.invariant-parts_of-parts
invariant-parts_of-parts l = (length l.cursor.left ≤ length l.initial.cursor.left)
    × PiecesSoFar (λ b. b == 44) (λ q. part (disjunction (inside_of l.inside)) (past q)) l.initial.parts l.initial.cursor l.parts l.cursor

abbrev pub decreases-parts_of-parts : goal.decreases-parts_of-parts
decreases-parts_of-parts l = length l.cursor.left
