-- What a theorem by computation opens: `unfolding codec_opens` unfolds every definition of images, records, sets and message numbers.
use mathlib.Core.List.{flatten}
use Rattle.codec.specs.Lists.{select, any, all, every, same, only_if, first}
use Rattle.codec.specs.Sets.{participants, member, empty, listed, bits, those, only, without, both, either, minus, part}
use Rattle.codec.specs.Records.{bytes_of, record_of, lengths, length_of, members_in, presume_commit_in, awaits_acks, record_kind_at, masks_in_range, kind_and_length, fields_in_range, sequences, within_init, agrees, of_transaction, in_sequence, record_tests, record_refusals, further_unless, first_bad}
use Rattle.codec.specs.Image.{magic, head_length, word, pair_table, image, pairs_of, site_in, count_in, pairs_in, records_in, most, over_limit, exact, table_exact, head_refusals, reading_number, reading_index, records_unless, read_records, read_unless, read_image, check_image, log_refusals, write_refusals, stored, write_unless, write_image, copy_reading, copy_image}
use Rattle.codec.specs.Messages.{message_number, message_parts, message_answer, parts_written, is_message, number_of, number_answer}

unfoldable pub codec_opens : Unit {0}
unfolding flatten select any all every same only_if first participants member empty listed bits those only without both either minus part bytes_of record_of lengths length_of members_in presume_commit_in awaits_acks record_kind_at masks_in_range kind_and_length fields_in_range sequences within_init agrees of_transaction in_sequence record_tests record_refusals further_unless first_bad magic head_length word pair_table image pairs_of site_in count_in pairs_in records_in most over_limit exact table_exact head_refusals reading_number reading_index records_unless read_records read_unless read_image check_image log_refusals write_refusals stored write_unless write_image copy_reading copy_image message_number message_parts message_answer parts_written is_message number_of number_answer
codec_opens = tt
