-- What the fields of texts in one block mean, and what always holds of them.
use Rattle.std.specs.Prelude.{◌≡◌, ◌≤◌, take, drop, vec_len}
use Rattle.wc_lines.specs.declared.packed_texts.PackedTexts.TheInside.{Inside}
use Rattle.wc_lines.specs.Packed.{LineTexts, all_spelled, tags_of}

abbrev pub texts_in : Inside → LineTexts
texts_in a = record {
  tags = tags_of (drop a.tags_at a.block.items);
  prefix = take a.message_at a.block.items;
  message = drop a.message_at (take a.tags_at a.block.items);
}

pub record IsBlock (a : Inside) : Type 0 where
  pub message : a.message_at ≤ a.tags_at
  pub tags : a.tags_at ≤ vec_len a.block
  -- nothing but tags is behind the message
  pub spelled : drop a.tags_at a.block.items ≡ all_spelled (tags_of (drop a.tags_at a.block.items))
