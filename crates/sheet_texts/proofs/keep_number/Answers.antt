use Prim.Native.Nat.{ℕ, ◌<◌, ◌^◌}
use mathlib.Core.Path.{◌≡◌, ◌∙◌, ap}
use mathlib.Core.List.{List}
use lib.ListN.{length, take}
use Rattle.sheet_bytes.specs.Lines.{kept, laid}
use Rattle.sheet_texts.specs.Texts.{decimal}
use Rattle.sheet_texts.proofs.Decimals.{decimal_is, few}
use borrow.Author.Rules.{rules}
use Rattle.sheet_texts.proofs.keep_number.Goals as goal

pub returns : goal.returns
returns c =
    let small : c.args.n < 2 ^ 64 = search rules in let e : take c.decimal-k.result c.decimal-k.new.out ≡ decimal c.args.n = c.decimal-k.ensures.digits
    ∙ decimal_is 20 c.decimal-k.result c.args.n c.decimal-k.ensures.len
    (few c.decimal-k.result c.args.n c.decimal-k.ensures.len small) in record {
      value = c.keep.ensures.value ∙ ap
          (λ (l : List ℕ). length (kept c.args.out.now c.args.used l)) e;
      out_after = c.keep.ensures.row_after ∙ ap
          (λ (l : List ℕ). laid (kept c.args.out.now c.args.used l) c.args.out.now) e;
    }
