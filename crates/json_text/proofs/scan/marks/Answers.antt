use Rattle.std.proofs.Common.{◌≡◌, ◌∙◌, ◌||◌, length, bit_or, eqb, ltb, w8, arith}
use Rattle.std.specs.Simd.Lanes.{chunk}
use Rattle.std.proofs.lemmas.Simd.{length-chunk, bitmask_splat}
use Rattle.json_text.proofs.Masks.{or-mask_l}
use Rattle.json_text.proofs.scan.marks.Goals as goal

pub returns : goal.returns
returns c =
    let xs = chunk c.args.at 16 c.args.bytes.now in
    let long : length xs ≡ 16 = length-chunk c.args.at 16 c.args.bytes.now c.requires in
    let quote = bitmask_splat w8 eqb xs 16 34 long (omega arith) in
    let slash = bitmask_splat w8 eqb xs 16 92 long (omega arith) in
    let control = bitmask_splat w8 ltb xs 16 32 long (omega arith) in
    (λ i. bit_or (bit_or (quote i) (slash i)) (control i))
    ∙ (λ i. bit_or (or-mask_l (λ b. eqb b 34) (λ b. eqb b 92) xs i) (control 1))
    ∙ or-mask_l (λ b. eqb b 34 || eqb b 92) (λ b. ltb b 32) xs
