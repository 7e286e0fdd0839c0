mod Stepping
