-- All that is claimed is kept: each field by the theorem behind it.
-- Assumes nothing.
use Rattle.faults.proofs.InForce.{message_four, standard_stays}
use Rattle.finding_laws.proofs.Message.{finding_message}
use Rattle.finding_laws.proofs.Says.{finding_says}
use Rattle.ngachodui_laws.specs.Demands.{Demands}
use Rattle.ngachodui_laws.proofs.HostRuns.{host_never_damaged, host_never_30}
use Rattle.ngachodui_laws.proofs.Ended.{never_54}
use Rattle.ngachodui_laws.proofs.Sound.{always_sound}
use Rattle.ngachodui_laws.proofs.Outcomes.{one_outcome, the_outcome, fresh_outcome, started_outcome, unstarted_leaves, refused_leaves, start_leaves, buffer_left, ignored_is_left, others_kept, speaks_kept, texts_kept, no_order}
use Rattle.ngachodui_laws.proofs.Deciding.{decided_exactly, wrong_at}
use Rattle.ngachodui_laws.proofs.Sending.{sent, given_back}
use Rattle.ngachodui_laws.proofs.Orders.{sent_whole, order_taken, fetched, six_sends, eot_tells, sending_ends}
use Rattle.ngachodui_laws.proofs.Among.{sent_among}
use Rattle.ngachodui_laws.proofs.FromFresh.{can_send}
use Rattle.ngachodui_laws.proofs.Stretches.{stretches, stretches_met, stretches_all}
use Rattle.ngachodui_laws.proofs.Rooms.{share_kept, no_space, space, freed_own, freed_others, alone_refused, alone_stored, acknowledged_stored, only_4_stores}
use Rattle.ngachodui_laws.proofs.Queue.{nothing_lost, only_messages}
use Rattle.ngachodui_laws.proofs.Readers.{block_answered, repeat_not_stored, more_stored, to_reader, replies_right}
use Rattle.ngachodui_laws.proofs.Texts.{cut_whole, read_never_refused}
use Rattle.ngachodui_laws.proofs.Escapes.{escaped_back, unescaped_back}

pub kept : Demands
kept = record {
  one_outcome = one_outcome;
  the_outcome = the_outcome;
  fresh_outcome = fresh_outcome;
  started_outcome = started_outcome;
  unstarted_leaves = unstarted_leaves;
  never_damaged = host_never_damaged;
  never_30 = host_never_30;
  never_54 = never_54;
  always_sound = always_sound;
  refusal_leaves = refused_leaves;
  start_leaves = start_leaves;
  buffer_left = buffer_left;
  ignored_leaves = ignored_is_left;
  others_kept = others_kept;
  speaks_kept = speaks_kept;
  decided_exactly = decided_exactly;
  wrong_at = wrong_at;
  cut_whole = cut_whole;
  sent = sent;
  given_back = given_back;
  can_send = can_send;
  stretches = stretches;
  stretches_met = stretches_met;
  stretches_all = stretches_all;
  share_kept = share_kept;
  no_space = no_space;
  space = space;
  freed_own = freed_own;
  freed_others = freed_others;
  alone_refused = alone_refused;
  alone_stored = alone_stored;
  acknowledged_stored = acknowledged_stored;
  only_4_stores = only_4_stores;
  nothing_lost = nothing_lost;
  only_messages = only_messages;
  read_never_refused = read_never_refused;
  sent_whole = sent_whole;
  sent_among = sent_among;
  order_taken = order_taken;
  fetched = fetched;
  six_sends = six_sends;
  eot_tells = eot_tells;
  sending_ends = sending_ends;
  block_message = finding_message;
  block_says = finding_says;
  block_answered = block_answered;
  repeat_not_stored = repeat_not_stored;
  more_stored = more_stored;
  to_reader = to_reader;
  replies_right = replies_right;
  texts_kept = texts_kept;
  no_order = no_order;
  message_four = message_four;
  standard_stays = standard_stays;
  escaped_back = escaped_back;
  unescaped_back = unescaped_back;
}
