use Rattle.std.proofs.Common.{refl, arith}
use Rattle.change_pull.proofs.Values.{added_part, added_name}
use Rattle.change_pull.proofs.item.Item.add.Goals.{then-self-ne-CONTENT-via-then-self-ne-CONTENT, then-self-ne-CONTENT-via-else-self-ne-CONTENT+then-len-lt-NAME_LEN}
use Rattle.change_pull.proofs.item.Item.add.Goals as goal

pub returns-then-self-ne-CONTENT : goal.returns-then-self-ne-CONTENT
returns-then-self-ne-CONTENT c = λ tag len value written is.
    elim c.then-self-ne-CONTENT.branch [
      | then-self-ne-CONTENT-via-then-self-ne-CONTENT w ↦ added_part c.args.self.now _ tag len value c.args.bytes.now written (λ e. omega (arith, e, w.if-self-ne-CONTENT.true)) refl refl c.in_ok-extend_from_slice.ensures.items is
      | then-self-ne-CONTENT-via-else-self-ne-CONTENT+then-len-lt-NAME_LEN w ↦ added_name c.args.self.now _ tag len value c.args.bytes.now written (omega (arith, w.if-self-ne-CONTENT.false)) (omega (arith, w.len.ensures, w.if-len-lt-NAME_LEN.true)) (c.requires (omega (arith, w.if-self-ne-CONTENT.false)) (omega (arith, w.len.ensures, w.if-len-lt-NAME_LEN.true))) refl refl c.in_ok-extend_from_slice.ensures.items refl refl is
    ]
